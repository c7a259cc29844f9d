use Rattle.bitmap_block.proofs.Clearing.{cleared_has_codes}
use Rattle.bitmap_block.proofs.upper_level.UpperLevel.clear_from.Goals as goal

pub invariant_of-self : goal.invariant_of-self
invariant_of-self g c = cleared_has_codes c.self.inside.codes c.front_of-codes.result g.row.CODES c.args.first c.self.invariant c.requires c.front_of-codes.ensures
