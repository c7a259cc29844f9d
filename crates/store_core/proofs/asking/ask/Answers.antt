use Rattle.std.proofs.Common.{Ok, Err}
use Rattle.store_core.proofs.Lookups.{looked_on, looked_err}
use Rattle.store_core.proofs.asking.ask.Goals as goal

pub returns-in-Err-clause-sound : goal.returns-in-Err-clause-sound
returns-in-Err-clause-sound g c = λ R x h n p e. c.in-Err.ensures.sound R h.list n p

pub returns-in-Ok-None-clause-looked : goal.returns-in-Ok-None-clause-looked
returns-in-Ok-None-clause-looked g c = looked_on g.D.Disk.meaning c.args.store.now c.fetch.new.self c.refuse.new.self _ (Err c.refuse.result) c.in-Ok.ensures.looked (looked_err g.D.Disk.meaning c.fetch.new.self c.refuse.new.self c.refuse.result c.refuse.ensures.looked)
