use Rattle.store_core.proofs.Lookups.{looked_ok, looked_err}
use Rattle.row_change.proofs.filling.then_emptied.Goals as goal

pub returns-in-Ok-clause-looked : goal.returns-in-Ok-clause-looked
returns-in-Ok-clause-looked g c = looked_ok g.D.Disk.meaning c.args.store.now c.emptied.new.store c.in-Ok.second _ c.in-Ok.ensures.looked

pub returns-in-Ok-clause-says : goal.returns-in-Ok-clause-says
returns-in-Ok-clause-says g c = λ R o who own f t a x h. (h, (c.in-Ok.ensures.says R o who own t a x, tt))

pub returns-in-Err-clause-looked : goal.returns-in-Err-clause-looked
returns-in-Err-clause-looked g c = looked_err g.D.Disk.meaning c.args.store.now c.emptied.new.store c.in-Err.fault c.in-Err.ensures.looked

pub returns-in-Err-clause-sound : goal.returns-in-Err-clause-sound
returns-in-Err-clause-sound g c = λ R o who own t a x n. c.in-Err.ensures.sound R o who own t a x n
