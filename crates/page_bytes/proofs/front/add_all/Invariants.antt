use Rattle.page_bytes.proofs.Fronts.{Added}
use Rattle.page_bytes.proofs.front.add_all.Given as goal

abbrev pub invariant-loop-piece : goal.invariant-loop-piece
invariant-loop-piece g l = Added g.T.Piece.spelling l.pieces l.fn.page l.at l.page l.next l.piece-index
