use Rattle.std.proofs.Common.{slice_index, sym, ◌∙◌, ap, arith}
use Rattle.page_store.specs.Types.{is_batch, head_blocks}
use Rattle.page_store.proofs.Heads.{length-numbers, numbers_read, too_many}
use Rattle.page_store.proofs.area.blocks_in.Goals as goal

pub returns-then-count : goal.returns-then-count
returns-then-count c = too_many c.args.shape.now (head_blocks c.args.head.now) (omega (arith, length-numbers 0 (slice_index c.args.head.now 1) c.args.head.now))

pub returns-then-not-is_batch : goal.returns-then-not-is_batch
returns-then-not-is_batch c =
    let same = numbers_read c.numbers-blocks.result c.args.head.now (slice_index c.args.head.now 1) c.numbers-blocks.ensures.long c.if-count.false c.numbers-blocks.ensures.each in
    ap (is_batch c.args.shape.now) (sym same) ∙ sym c.is_batch.ensures ∙ c.if-not-is_batch.true

pub returns : goal.returns
returns c =
    let same = numbers_read c.numbers-blocks.result c.args.head.now (slice_index c.args.head.now 1) c.numbers-blocks.ensures.long c.if-count.false c.numbers-blocks.ensures.each in
    (same, sym c.is_batch.ensures ∙ c.if-not-is_batch.false)
