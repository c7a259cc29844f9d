use Rattle.std.proofs.Common.{ap}
use Rattle.redo_model.specs.Model.{image}
use Rattle.shrink_move.specs.declared.standing.Standing.{Standing}
use Rattle.shrink_move.proofs.draft.apart_fills.Goals as goal

pub returns : goal.returns
returns c = λ R a i b k d j n first second e l. (c.emptied-first.ensures R a i first, (c.emptied-second.ensures R b k second, (c.filled.ensures R d j n (image R b k).bytes e l (ap (λ (s : Standing). s.len) second), tt)))
