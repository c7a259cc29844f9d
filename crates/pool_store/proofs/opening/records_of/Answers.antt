use Rattle.std.proofs.Common.{◌≡◌, ℕ, List, reverse, subst}
use Rattle.std.specs.Prelude.{Err}
use Rattle.std.specs.Global.{Vec}
use Rattle.redo_model.specs.Records.{Record}
use Rattle.redo_log.specs.Found.{AreAll}
use Rattle.pool_store.proofs.LogRead.{all_read, read_answers, log_sound, never_not_open, read_refused}
use Rattle.pool_store.proofs.opening.records_of.Goals as goal

pub returns-in-Ok-clause-whole : goal.returns-in-Ok-clause-whole
returns-in-Ok-clause-whole g c = λ sh groups R told log holds. all_read sh groups (g.D.Disk.meaning.files c.args.disk.now).log_bytes R log holds c.in-Ok.records.items (c.in-Ok.ensures.read told)

pub returns-in-Err-clause-whole : goal.returns-in-Err-clause-whole
returns-in-Err-clause-whole g c = λ sh groups R told log holds.
    c.of_log.ensures.sound (log_sound c.in-Err.fault (λ (v : Vec Record). reverse v.items ≡ R)
    (read_answers sh groups (g.D.Disk.meaning.files c.args.disk.now).log_bytes R log holds (Err c.in-Err.fault) (c.in-Err.ensures.read told)))

pub returns-in-Err-clause-not_open : goal.returns-in-Err-clause-not_open
returns-in-Err-clause-not_open g c = λ told e. never_not_open (g.D.Disk.meaning.files c.args.disk.now).log_bytes c.in-Err.fault (c.of_log.ensures.not_open (cc e)) (c.in-Err.ensures.read told)

pub returns-in-Ok-clause-found : goal.returns-in-Ok-clause-found
returns-in-Ok-clause-found g c = λ file sh told here head. subst (λ (b : List ℕ). AreAll b 63 c.in-Ok.records.items) here (c.in-Ok.ensures.read told)

pub returns-in-Err-clause-found : goal.returns-in-Err-clause-found
returns-in-Err-clause-found g c = λ file sh told here head. read_refused file (g.D.Disk.meaning.files c.args.disk.now).log_bytes sh c.in-Err.fault c.of_log.result c.of_log.ensures.same here head (c.in-Err.ensures.read told)
