use Rattle.std.proofs.Common.{length}
use Rattle.page_set.proofs.rows.+name_block_back.Given as goal

abbrev pub decreases-name_block_back : goal.decreases-name_block_back
decreases-name_block_back l = length l.parts.now
