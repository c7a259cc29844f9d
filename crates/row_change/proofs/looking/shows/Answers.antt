use Rattle.std.proofs.Common.{subst}
use Rattle.row_change.specs.Locating.{Sees}
use Rattle.row_change.proofs.Sights.{keeps_told}
use Rattle.row_change.proofs.looking.shows.Goals as goal

pub returns-in-None : goal.returns-in-None
returns-in-None c = λ R own p h. λ n bytes e z. (subst (Sees R own p) c.in-None.is h) n bytes e

pub returns-in-Some : goal.returns-in-Some
returns-in-Some c = λ R own p h. keeps_told R own p c.in-Some.sight c.args.undo.now c.is_same.result (subst (Sees R own p) c.in-Some.is h) c.is_same.ensures.same c.is_same.ensures.other
