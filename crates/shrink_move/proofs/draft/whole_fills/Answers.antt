use Rattle.std.proofs.Common.{ap}
use Rattle.redo_model.specs.Model.{image}
use Rattle.shrink_move.specs.declared.standing.Standing.{Standing}
use Rattle.shrink_move.proofs.draft.whole_fills.Goals as goal

pub returns : goal.returns
returns c = λ R b k d j n e h l. (c.emptied.ensures R b k e, (c.filled.ensures R d j n (image R b k).bytes h l (ap (λ (s : Standing). s.len) e), tt))
