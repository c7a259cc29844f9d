use Rattle.std.proofs.Common.{subst}
use Rattle.store_core.proofs.Lookups.{looked_same}
use Rattle.mark_move.proofs.Tabling.{tried_same}
use Rattle.shrink_move.specs.Drafting.{PlanMeans}
use Rattle.shrink_move.proofs.Carried.{move_spent}
use Rattle.shrink_move.proofs.plan.make.Goals as goal

pub returns-in-Adds-clause-moves : goal.returns-in-Adds-clause-moves
returns-in-Adds-clause-moves g c = λ R o n gs t p. c.add_move.ensures.moves R o n gs t (subst (PlanMeans c.args.store.now.shape R o n gs) c.in-Adds.is p)

pub returns-in-Spent-clause-moves : goal.returns-in-Spent-clause-moves
returns-in-Spent-clause-moves g c = λ R o n gs t p. move_spent g.D.Disk.meaning c.args.store.now.shape R gs c.args.store.now c.in-Spent.holders t (subst (PlanMeans c.args.store.now.shape R o n gs) c.in-Spent.is p)

pub returns-in-Spent-clause-tried : goal.returns-in-Spent-clause-tried
returns-in-Spent-clause-tried g c = tried_same {A = Unit {0}} g.D.Disk.meaning c.args.store.now c.args.store.now tt tt (looked_same {T = Unit {0}} g.D.Disk.meaning c.args.store.now tt c.requires.unspent)
