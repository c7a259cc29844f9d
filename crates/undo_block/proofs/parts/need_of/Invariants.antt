use Rattle.std.proofs.Common.{◌≡◌, min, take}
use Rattle.undo_block.specs.Types.{used_by}
use Rattle.undo_block.proofs.parts.need_of.Given as goal

abbrev pub invariant-loop-part : goal.invariant-loop-part
invariant-loop-part l = l.need ≡ min (used_by (take l.part-index l.parts)) 65535
