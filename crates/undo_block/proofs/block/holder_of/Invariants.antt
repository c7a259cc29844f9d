use Rattle.std.proofs.Common.{◌≡◌, ◌≤◌, length, drop}
use Rattle.undo_block.specs.Types.{holder_of}
use Rattle.undo_block.proofs.block.holder_of.Given as goal

abbrev pub invariant-loop-at : goal.invariant-loop-at
invariant-loop-at g l = (l.holder ≡ holder_of (g.E.Ended.has_ended l.ended) (drop l.at l.parts)) × (l.at ≤ length l.parts)

abbrev pub decreases-loop-at : goal.decreases-loop-at
decreases-loop-at g l = l.at
