use Rattle.std.proofs.Common.{◌≡◌, ◌≤◌, ◌*◌, take, sum_by}
use Rattle.seg_words.specs.Types.{slot_size}
use Rattle.row_block.proofs.sizes.slots_size.Given as goal

abbrev pub invariant-loop-slot : goal.invariant-loop-slot
invariant-loop-slot g l = (l.size ≡ sum_by (slot_size (g.E.Ended.has_ended l.ended)) (take l.slot-index l.slots)) × (l.size ≤ 65575 * l.slot-index)
