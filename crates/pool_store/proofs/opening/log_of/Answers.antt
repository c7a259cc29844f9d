use Rattle.std.proofs.Common.{[], refl}
use Rattle.redo_log.specs.Lasting.{IsOpened}
use Rattle.pool_store.proofs.LogRead.{log_sound, not_open_log, log_refused, found_in}
use Rattle.pool_store.proofs.opening.log_of.Goals as goal

pub returns-in-Ok-clause-whole : goal.returns-in-Ok-clause-whole
returns-in-Ok-clause-whole g c = λ sh groups R settled log holds. c.in-Ok.ensures.whole sh [] groups [] R settled log refl refl holds

pub returns-in-Err-clause-whole : goal.returns-in-Err-clause-whole
returns-in-Err-clause-whole g c = λ sh groups R settled log holds.
    c.of_log.ensures.sound (log_sound c.in-Err.fault (IsOpened g.D.Disk.meaning c.open.new.disk sh groups groups [] R) (c.in-Err.ensures.whole sh [] groups [] R settled log refl refl holds))

pub returns-in-Err-clause-not_open : goal.returns-in-Err-clause-not_open
returns-in-Err-clause-not_open g c = λ told e. not_open_log (g.D.Disk.meaning.files c.args.disk.now).log_bytes c.in-Err.fault (c.of_log.ensures.not_open (cc e)) (c.in-Err.ensures.found [] told refl)

pub returns-in-Ok-clause-found : goal.returns-in-Ok-clause-found
returns-in-Ok-clause-found g c = λ file sh told here head. found_in file (g.D.Disk.meaning.files c.args.disk.now).log_bytes c.in-Ok.log here (c.in-Ok.ensures.found [] told refl)

pub returns-in-Err-clause-found : goal.returns-in-Err-clause-found
returns-in-Err-clause-found g c = λ file sh told here head. log_refused file (g.D.Disk.meaning.files c.args.disk.now).log_bytes sh c.in-Err.fault c.of_log.result c.of_log.ensures.same here head (c.in-Err.ensures.found [] told refl)
