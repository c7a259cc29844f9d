use Rattle.row_block.proofs.Laid.{laid_put}
use Rattle.row_block.proofs.sizes.laid_after.Goals as goal

pub returns : goal.returns
returns c = laid_put c.args.slots.now c.args.at c.args.laid c.size_at.result c.slot_size.result c.args.image.now c.requires.at c.requires.laid c.size_at.ensures c.slot_size.ensures.value
