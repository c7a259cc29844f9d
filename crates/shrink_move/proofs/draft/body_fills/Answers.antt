use Rattle.std.proofs.Common.{ap}
use Rattle.redo_model.specs.Model.{image}
use Rattle.shrink_move.specs.declared.standing.Standing.{Standing}
use Rattle.shrink_move.proofs.draft.body_fills.Goals as goal

pub returns : goal.returns
returns c = λ R a i b k n first second l. (c.emptied.ensures R a i first, (c.filled.ensures R b k n (image R b k).bytes second l (ap (λ (s : Standing). s.len) second), tt))
