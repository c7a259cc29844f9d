use Rattle.segment_blocks.specs.Types.{AreUsed}
use Rattle.segment_blocks.proofs.space.SpaceBitmap.least_free.Given as goal

abbrev pub invariant-loop-extent : goal.invariant-loop-extent
invariant-loop-extent l = AreUsed l.self.bits l.extent
