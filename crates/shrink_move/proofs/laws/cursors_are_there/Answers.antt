use Rattle.shrink_move.proofs.ThereLaw as laws
use Rattle.shrink_move.proofs.laws.cursors_are_there.Goals as goal

pub returns : goal.returns
returns c = laws.cursors_are_there
