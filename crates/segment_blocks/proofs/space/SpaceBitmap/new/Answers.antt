use Rattle.segment_blocks.proofs.Searching.{no_bits}
use Rattle.segment_blocks.proofs.space.SpaceBitmap.new.Goals as goal

pub invariant_of-result : goal.invariant_of-result
invariant_of-result c = no_bits
