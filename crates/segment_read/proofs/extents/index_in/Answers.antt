use Rattle.std.proofs.Common.{◌≡◌, length, ◌∙◌, sym, arith}
use Rattle.segment_read.proofs.Saying.{index_says, no_index_says}
use Rattle.segment_read.proofs.extents.index_in.Goals as goal

pub returns-then-has_block-clause-says : goal.returns-then-has_block-clause-says
returns-then-has_block-clause-says c = λ R o s. index_says c.args.shape.now R o c.args.page.now c.in-Header.header c.loop-index.index c.args.dba c.in-Header.is c.loop-index.invariant (sym c.has_block.ensures ∙ c.if-has_block.true) s

pub returns-clause-right : goal.returns-clause-right
returns-clause-right c =
    let n : c.loop-index.index ≡ length c.in-Header.header.extents = omega (arith, c.loop-index-test.false, c.loop-index.auto.index-end, c.extents-index-end.ensures.count) in
    λ R o s l. absurd (no_index_says c.args.shape.now R o c.args.page.now c.in-Header.header c.loop-index.index c.args.dba c.in-Header.is n c.loop-index.invariant s l)
