use Rattle.std.proofs.Common.{Ok, Err, refl}
use Rattle.store_core.proofs.Lookups.{looked_on, looked_ok, looked_err}
use Rattle.lowering.specs.declared.groups.Group.{Group}
use Rattle.lowering.specs.declared.groups.Groups.{Groups}
use Rattle.lowering.proofs.Knowing.{knows_later}
use Rattle.lowering.proofs.Levels.{groups_told}
use Rattle.lowering.proofs.groups.groups_after.Goals as goal

pub returns-in-Err-clause-looked : goal.returns-in-Err-clause-looked
returns-in-Err-clause-looked g c = looked_err {A = Group} {T = Groups} g.D.Disk.meaning c.args.store.now c.group_at.new.store c.in-Err.fault c.in-Err.ensures.looked

pub returns-in-Err-clause-sound : goal.returns-in-Err-clause-sound
returns-in-Err-clause-sound g c = λ R o k l. c.in-Err.ensures.sound R o k l refl

pub returns-in-Ok-group_at-clause-looked : goal.returns-in-Ok-group_at-clause-looked
returns-in-Ok-group_at-clause-looked g c = looked_ok g.D.Disk.meaning c.args.store.now c.group_at-2.new.store c.in-Ok-group_at.third _ (looked_on g.D.Disk.meaning c.args.store.now c.group_at.new.store c.group_at-2.new.store c.in-Ok.second (Ok c.in-Ok-group_at.third) c.in-Ok.ensures.looked c.in-Ok-group_at.ensures.looked)

pub returns-in-Ok-group_at-clause-says : goal.returns-in-Ok-group_at-clause-says
returns-in-Ok-group_at-clause-says g c = λ R o k l first.
    let q = knows_later g.D.Disk.meaning c.args.store.now c.group_at.new.store R o c.args.ground.now (Ok c.in-Ok.second) c.in-Ok.ensures.looked k in
    groups_told c.args.ground.now.shape R o c.args.kept c.args.first c.in-Ok.second c.in-Ok-group_at.third c.all_of.result c.all_of.ensures first (c.in-Ok.ensures.says R o k l refl) (c.in-Ok-group_at.ensures.says R o q l refl)

pub returns-in-Err-group_at-clause-looked : goal.returns-in-Err-group_at-clause-looked
returns-in-Err-group_at-clause-looked g c = looked_on g.D.Disk.meaning c.args.store.now c.group_at.new.store c.group_at-2.new.store c.in-Ok.second (Err c.in-Err-group_at.fault) c.in-Ok.ensures.looked (looked_err {A = Group} {T = Groups} g.D.Disk.meaning c.group_at.new.store c.group_at-2.new.store c.in-Err-group_at.fault c.in-Err-group_at.ensures.looked)

pub returns-in-Err-group_at-clause-sound : goal.returns-in-Err-group_at-clause-sound
returns-in-Err-group_at-clause-sound g c = λ R o k l. c.in-Err-group_at.ensures.sound R o (knows_later g.D.Disk.meaning c.args.store.now c.group_at.new.store R o c.args.ground.now (Ok c.in-Ok.second) c.in-Ok.ensures.looked k) l refl
