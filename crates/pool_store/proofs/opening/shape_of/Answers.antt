use Rattle.std.proofs.Common.{◌≡◌}
use Rattle.seg_words.specs.Types.{Shape}
use Rattle.pool_store.proofs.LogRead.{frame_sound, not_open_head, head_refused}
use Rattle.pool_store.proofs.opening.shape_of.Goals as goal

pub returns-in-Err-clause-whole : goal.returns-in-Err-clause-whole
returns-in-Err-clause-whole g c = λ sh groups told log. c.of_frame.ensures.sound (frame_sound c.in-Err.fault (λ (s : Shape). s ≡ sh) (c.in-Err.ensures.whole sh groups told log))

pub returns-in-Err-clause-not_open : goal.returns-in-Err-clause-not_open
returns-in-Err-clause-not_open g c = λ told e. not_open_head (g.D.Disk.meaning.files c.args.disk.now).log_bytes c.in-Err.fault (c.of_frame.ensures.not_open (cc e)) (c.in-Err.ensures.found told)

pub returns-in-Ok-clause-found : goal.returns-in-Ok-clause-found
returns-in-Ok-clause-found g c = λ told. let is = c.in-Ok.ensures.found told in record { formatted = is.0; found = is.1 }

pub returns-in-Err-clause-found : goal.returns-in-Err-clause-found
returns-in-Err-clause-found g c = λ told. head_refused (g.D.Disk.meaning.files c.args.disk.now).log_bytes c.in-Err.fault c.of_frame.result c.of_frame.ensures.same (c.in-Err.ensures.found told)
