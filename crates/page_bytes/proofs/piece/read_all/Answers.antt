use Rattle.std.proofs.Common.{take, drop, ap, ◌∙◌}
use Rattle.page_bytes.specs.Types.{pieces_in}
use Rattle.page_bytes.proofs.PiecesIn.{one_read, all_read}
use Rattle.page_bytes.proofs.piece.read_all.Goals as goal

pub loop-preserved : goal.loop-preserved
loop-preserved g c = one_read g.T.Piece.meaning g.T.Piece.SIZE c.args.count c.loop.counter c.loop.pieces.items c.push.new.self.items c.loop.rest.now c.split_at.result.0.now c.split_at.result.1.now c.in_ok-read.field-0 (pieces_in g.T.Piece.meaning g.T.Piece.SIZE c.args.count c.args.bytes.now) c.loop-test.true
    (c.split_at.ensures.front ∙ ap (λ n. take n c.loop.rest.now) c.SIZE.ensures) (c.split_at.ensures.back ∙ ap (λ n. drop n c.loop.rest.now) c.SIZE.ensures) c.in_ok-read.ensures c.in_ok-push.ensures.items c.loop.invariant

pub returns : goal.returns
returns g c = all_read g.T.Piece.meaning g.T.Piece.SIZE c.args.count c.loop.counter c.loop.pieces.items c.loop.rest.now (pieces_in g.T.Piece.meaning g.T.Piece.SIZE c.args.count c.args.bytes.now) c.loop-test.false c.loop.invariant
