use Rattle.std.proofs.Common.{length}
use Rattle.undo_block.proofs.form.+have_part_form.Given as goal

abbrev pub decreases-have_part_form : goal.decreases-have_part_form
decreases-have_part_form l = length l.parts.now
