use Rattle.std.proofs.Common.{◌≡◌, ◌++◌, map, take, drop}
use Rattle.seg_words.specs.Types.{clean_slot}
use Rattle.row_block.proofs.clean.clean_each.Given as goal

abbrev pub invariant-loop-slot : goal.invariant-loop-slot
invariant-loop-slot l = l.slot-items ≡ map (clean_slot l.done) (take l.slot-index l.fn.slots) ++ drop l.slot-index l.fn.slots
