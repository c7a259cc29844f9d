use Rattle.segment_blocks.proofs.Marking.{has_bits}
use Rattle.segment_blocks.proofs.space.SpaceBitmap.mark.Goals as goal

pub invariant_of-self : goal.invariant_of-self
invariant_of-self c = has_bits c.self.inside.bits c.args.extent c.with_bit.result c.args.used c.self.invariant c.requires c.with_bit.ensures.range c.with_bit.ensures.value
