use Rattle.page_bytes.specs.Types.{pieces_in}
use Rattle.page_bytes.proofs.PiecesIn.{Reads}
use Rattle.page_bytes.proofs.piece.read_all.Given as goal

abbrev pub invariant-loop : goal.invariant-loop
invariant-loop g l = Reads g.T.Piece.meaning g.T.Piece.SIZE l.count l.counter l.pieces.items l.rest (pieces_in g.T.Piece.meaning g.T.Piece.SIZE l.count l.bytes)
