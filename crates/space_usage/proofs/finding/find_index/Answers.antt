use Rattle.std.proofs.Common.{Ok}
use Rattle.store_core.proofs.Lookups.{looked_ok, looked_err}
use Rattle.space_usage.proofs.Fixes.{known_there}
use Rattle.space_usage.proofs.Walks.{knows_later}
use Rattle.space_usage.proofs.finding.find_index.Goals as goal

pub returns-in-Ok-clause-looked : goal.returns-in-Ok-clause-looked
returns-in-Ok-clause-looked g c = looked_ok {A = Unit {0}} g.D.Disk.meaning c.args.store.now c.fetch.new.self c.in-Ok.field-0 _ c.in-Ok.ensures.looked

pub returns-in-Ok-clause-says : goal.returns-in-Ok-clause-says
returns-in-Ok-clause-says g c = λ R o k. c.told_index.ensures R o (knows_later g.D.Disk.meaning c.args.store.now c.fetch.new.self R o c.args.shape.now c.args.segment.now (Ok c.in-Ok.field-0) c.in-Ok.ensures.looked k)

pub returns-in-Err-clause-looked : goal.returns-in-Err-clause-looked
returns-in-Err-clause-looked g c = looked_err {A = Unit {0}} g.D.Disk.meaning c.args.store.now c.fetch.new.self c.in-Err.fault c.in-Err.ensures.looked

pub returns-in-Err-clause-sound : goal.returns-in-Err-clause-sound
returns-in-Err-clause-sound g c = λ R o k n. c.in-Err.ensures.sound R k.holds.list n (known_there g.D.Disk.meaning R o c.args.store.now c.args.shape.now c.args.segment.now k)
