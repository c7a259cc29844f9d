use Rattle.std.proofs.Common.{subst}
use Rattle.row_change.specs.Locating.{Sees}
use Rattle.row_change.proofs.Sights.{sees_it, sees_other}
use Rattle.row_change.proofs.slots.of_row.Goals as goal

pub returns-in-None : goal.returns-in-None
returns-in-None c = λ R own p h. λ bytes e. (subst (Sees R own p) c.in-None.is h) c.args.row bytes e

pub returns-then-is_row : goal.returns-then-is_row
returns-then-is_row c = λ R own p h. sees_it R own c.args.row p c.in-Some.sight (c.is_row.ensures.same c.if-is_row.true) (subst (Sees R own p) c.in-Some.is h)

pub returns : goal.returns
returns c = λ R own p h. sees_other R own c.args.row p c.in-Some.sight (c.is_row.ensures.other c.if-is_row.false) (subst (Sees R own p) c.in-Some.is h)
