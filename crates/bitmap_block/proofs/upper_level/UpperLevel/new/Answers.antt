use Rattle.bitmap_block.proofs.Reading.{no_codes}
use Rattle.bitmap_block.proofs.upper_level.UpperLevel.new.Goals as goal

pub invariant_of-result : goal.invariant_of-result
invariant_of-result g c = no_codes g.row.CODES
