use Rattle.std.proofs.Common.{arith}
use Rattle.page_bytes.proofs.Fronts.{room_next}
use Rattle.page_bytes.proofs.front.add_all.Goals as goal

pub add-next-requires : goal.add-next-requires
add-next-requires g c = omega (
  arith,
  g.met.T.Piece.size c.piece-item.result,
  room_next g.T.Piece.spelling c.args.pieces.now c.args.page.now c.args.at c.loop-piece.page c.loop-piece.next c.loop-piece.piece-index c.piece-item.result c.loop-piece.invariant c.loop-piece-test.true c.piece-item.is c.requires,
)
