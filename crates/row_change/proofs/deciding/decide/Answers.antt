use Rattle.std.proofs.Common.{refl}
use Rattle.store_core.proofs.Lookups.{looked_ok, looked_err}
use Rattle.row_change.proofs.deciding.decide.Goals as goal

pub returns-in-Ok-clause-looked : goal.returns-in-Ok-clause-looked
returns-in-Ok-clause-looked g c = looked_ok g.D.Disk.meaning c.args.store.now c.plan.new.store c.in-Ok.planned _ c.in-Ok.ensures.looked

pub returns-in-Ok-clause-says : goal.returns-in-Ok-clause-says
returns-in-Ok-clause-says g c = λ R who own k t m a h can. record { change = k; answer_is = refl; plan = c.in-Ok.ensures.says R who own k t m a h can }

pub returns-in-Err-clause-looked : goal.returns-in-Err-clause-looked
returns-in-Err-clause-looked g c = looked_err g.D.Disk.meaning c.args.store.now c.plan.new.store c.in-Err.fault c.in-Err.ensures.looked

pub returns-in-Err-clause-sound : goal.returns-in-Err-clause-sound
returns-in-Err-clause-sound g c = λ R o who own t a i. c.in-Err.ensures.sound R o who own t a i
