use Rattle.std.proofs.Common.{arith}
use Rattle.row_block.proofs.Held.{can_put_test}
use Rattle.row_block.proofs.block.RowBlock.can_put.Goals as goal

pub returns : goal.returns
returns c = can_put_test c.args.self.now.block c.args.n c.args.image.now c.laid_out.result c.counted.result c.len-len.result (omega arith) c.if-n-ge-MOST_SLOTS.false (c.has_slot_form.ensures.form.0 c.if-not-has_slot_form.false) c.len-len.ensures c.laid_out.ensures.value c.counted.ensures
