use Rattle.std.proofs.Common.{◌∷◌}
use Rattle.row_change.specs.Adding.{reused}
use Rattle.store_core.proofs.Additions.{tried_ok, tried_err}
use Rattle.shrink_move.proofs.Carried.{move_added, move_failed}
use Rattle.shrink_move.proofs.plan.add_move.Goals as goal

pub returns-in-Ok-clause-moves : goal.returns-in-Ok-clause-moves
returns-in-Ok-clause-moves g c = λ R o n gs t p. move_added g.D.Disk.meaning c.args.store.now.shape R o n gs c.args.store.now c.add_change.new.store c.args.addition c.in-Ok.field-0 p (c.in-Ok.ensures.makes R t p.lawful)

pub returns-in-Ok-clause-tried : goal.returns-in-Ok-clause-tried
returns-in-Ok-clause-tried g c = tried_ok {A = Unit {0}} g.D.Disk.meaning c.args.store.now c.add_change.new.store c.in-Ok.field-0 tt c.in-Ok.ensures.tried

pub returns-clause-moves : goal.returns-clause-moves
returns-clause-moves g c = λ R o n gs t p. move_failed g.D.Disk.meaning R (c.args.addition.moved ∷ reused c.args.addition.reuse R) c.args.store.now c.add_change.new.store c.in-Err.fault (c.in-Err.ensures.makes R t p.lawful)

pub returns-clause-tried : goal.returns-clause-tried
returns-clause-tried g c = tried_err {A = Unit {0}} g.D.Disk.meaning c.args.store.now c.add_change.new.store c.in-Err.fault c.in-Err.ensures.tried
