use Rattle.std.proofs.Common.{length}
use Rattle.scan_table.proofs.marking.+least_having.Given as goal

abbrev pub decreases-least_having : goal.decreases-least_having
decreases-least_having l = length l.extents.now
