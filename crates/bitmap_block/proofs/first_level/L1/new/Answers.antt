use Rattle.bitmap_block.specs.Types.{CODES_OF_L1}
use Rattle.bitmap_block.proofs.Reading.{no_codes}
use Rattle.bitmap_block.proofs.first_level.L1.new.Goals as goal

pub invariant_of-result : goal.invariant_of-result
invariant_of-result c = no_codes CODES_OF_L1
