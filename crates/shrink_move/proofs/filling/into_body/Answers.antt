use Rattle.store_core.proofs.Lookups.{looked_ok, looked_err, looked_memory}
use Rattle.shrink_move.specs.declared.standing.Standing.{Standing}
use Rattle.shrink_move.proofs.filling.into_body.Goals as goal

pub returns-in-Err-clause-looked : goal.returns-in-Err-clause-looked
returns-in-Err-clause-looked g c = looked_err {A = Standing} g.D.Disk.meaning c.args.store.now c.stands.new.store c.in-Err.fault c.in-Err.ensures.looked

pub returns-in-Err-clause-sound : goal.returns-in-Err-clause-sound
returns-in-Err-clause-sound g c = λ R o k h u. c.in-Err.ensures.sound R o k h u

pub returns-in-Ok-moved_into-clause-looked : goal.returns-in-Ok-moved_into-clause-looked
returns-in-Ok-moved_into-clause-looked g c = looked_ok g.D.Disk.meaning c.args.store.now c.stands.new.store c.in-Ok.old c.in-Ok-moved_into.moving c.in-Ok.ensures.looked

pub returns-in-Ok-moved_into-clause-says : goal.returns-in-Ok-moved_into-clause-says
returns-in-Ok-moved_into-clause-says g c = λ R o p k e h. c.in-Ok-moved_into.ensures R p.dba p.slot c.args.body.now.dba c.args.body.now.slot e (c.in-Ok.ensures.says R o k h)

pub returns-in-Err-moved_into-clause-looked : goal.returns-in-Err-moved_into-clause-looked
returns-in-Err-moved_into-clause-looked g c = looked_memory g.D.Disk.meaning c.args.store.now c.stands.new.store c.in-Ok.old c.in-Ok.ensures.looked
