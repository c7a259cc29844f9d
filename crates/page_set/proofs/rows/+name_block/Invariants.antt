use Rattle.std.proofs.Common.{length}
use Rattle.page_set.proofs.rows.+name_block.Given as goal

abbrev pub decreases-name_block : goal.decreases-name_block
decreases-name_block l = length l.parts.now
