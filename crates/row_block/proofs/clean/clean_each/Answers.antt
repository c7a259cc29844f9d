use Rattle.row_block.proofs.Cleaned.{over_more}
use Rattle.seg_words.specs.Types.{clean_slot}
use Rattle.row_block.proofs.clean.clean_each.Goals as goal

pub loop-slot-preserved : goal.loop-slot-preserved
loop-slot-preserved c = over_more (clean_slot c.args.done.now) c.args.slots.now c.loop-slot.slot-items c.loop-slot.slot-index c.slot-item.result c.clean_slot.new.slot c.loop-slot-test.true c.loop-slot.invariant c.slot-item.is c.clean_slot.ensures
