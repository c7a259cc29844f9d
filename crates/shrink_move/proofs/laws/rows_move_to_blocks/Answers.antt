use Rattle.shrink_move.proofs.MoveLaw as laws
use Rattle.shrink_move.proofs.laws.rows_move_to_blocks.Goals as goal

pub returns : goal.returns
returns c = laws.rows_move_to_blocks
