use Rattle.std.proofs.Common.{length}
use Rattle.undo_block.proofs.form.+parts_in_range.Given as goal

abbrev pub decreases-parts_in_range : goal.decreases-parts_in_range
decreases-parts_in_range l = length l.parts.now
