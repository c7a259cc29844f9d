use Rattle.std.proofs.Common.{Ok, refl}
use Rattle.store_core.proofs.Lookups.{looked_on, looked_err}
use Rattle.lowering.specs.declared.groups.Group.{Group}
use Rattle.lowering.specs.declared.groups.Groups.{Groups}
use Rattle.lowering.proofs.Knowing.{knows_later}
use Rattle.lowering.proofs.groups.groups_of.Goals as goal

pub returns-in-Ok-clause-looked : goal.returns-in-Ok-clause-looked
returns-in-Ok-clause-looked g c = looked_on g.D.Disk.meaning c.args.store.now c.group_at.new.store c.groups_after.new.store c.in-Ok.first c.groups_after.result c.in-Ok.ensures.looked c.groups_after.ensures.looked

pub returns-in-Ok-clause-says : goal.returns-in-Ok-clause-says
returns-in-Ok-clause-says g c = λ R o k l. c.groups_after.ensures.says R o (knows_later g.D.Disk.meaning c.args.store.now c.group_at.new.store R o c.args.ground.now (Ok c.in-Ok.first) c.in-Ok.ensures.looked k) l (c.in-Ok.ensures.says R o k l refl)

pub returns-in-Ok-clause-sound : goal.returns-in-Ok-clause-sound
returns-in-Ok-clause-sound g c = λ R o k l. c.groups_after.ensures.sound R o (knows_later g.D.Disk.meaning c.args.store.now c.group_at.new.store R o c.args.ground.now (Ok c.in-Ok.first) c.in-Ok.ensures.looked k) l

pub returns-in-Err-clause-looked : goal.returns-in-Err-clause-looked
returns-in-Err-clause-looked g c = looked_err {A = Group} {T = Groups} g.D.Disk.meaning c.args.store.now c.group_at.new.store c.in-Err.fault c.in-Err.ensures.looked

pub returns-in-Err-clause-sound : goal.returns-in-Err-clause-sound
returns-in-Err-clause-sound g c = λ R o k l. c.in-Err.ensures.sound R o k l refl

pub groups_after-requires-clause-unspent : goal.groups_after-requires-clause-unspent
groups_after-requires-clause-unspent g c = c.in-Ok.ensures.looked.cause.kept c.in-Ok.ensures.looked.cause.goes_on
