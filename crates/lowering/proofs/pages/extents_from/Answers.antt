use Rattle.std.proofs.Common.{arith}
use Rattle.lowering.proofs.Told.{all_taken}
use Rattle.lowering.proofs.pages.extents_from.Goals as goal

pub returns : goal.returns
returns c = all_taken c.args.header.now.extents c.loop-index.found _ c.loop-index.index (let n = c.extents-index-end.ensures.count in let t = c.loop-index-test.false in omega (arith, n, t)) c.loop-index.invariant.0
