use Rattle.std.proofs.Common.{ℕ, take}
use Rattle.redo_model.specs.Model.{best_in_group, extents_of}
use Rattle.store_core.proofs.Lookups.{looked_ok, looked_err}
use Rattle.lowering.proofs.Levels.{group_told, second_read, second_there}
use Rattle.lowering.proofs.groups.group_of.Goals as goal

pub returns-in-Ok-clause-looked : goal.returns-in-Ok-clause-looked
returns-in-Ok-clause-looked g c = looked_ok g.D.Disk.meaning c.args.store.now c.ask.new.store c.in-Ok.best _ c.in-Ok.ensures.looked

pub returns-in-Ok-clause-says : goal.returns-in-Ok-clause-says
returns-in-Ok-clause-says g c = λ R o k l s is. group_told g.D.Disk.meaning c.args.store.now R o c.args.kept c.args.start c.args.dba c.kept_of_group.result c.in-Ok.best c.args.ground.now k c.requires l s is c.kept_of_group.ensures (c.in-Ok.ensures.says R k.holds)

pub returns-in-Err-clause-looked : goal.returns-in-Err-clause-looked
returns-in-Err-clause-looked g c = looked_err {A = ℕ} g.D.Disk.meaning c.args.store.now c.ask.new.store c.in-Err.fault c.in-Err.ensures.looked

pub returns-in-Err-clause-sound : goal.returns-in-Err-clause-sound
returns-in-Err-clause-sound g c = λ R o k l s is u.
    let a = c.args.store.now in
    c.in-Err.ensures.sound R (best_in_group a.shape R c.args.start 0 (take c.args.kept (extents_of R o))) k.holds u
    (second_there g.D.Disk.meaning a R o c.args.kept c.args.start c.args.dba c.args.ground.now k c.requires l s is)
    (second_read g.D.Disk.meaning a R o c.args.kept c.args.start c.args.dba c.kept_of_group.result c.args.ground.now k c.requires l s is c.kept_of_group.ensures)
