use Rattle.redo_model.proofs.Computing as laws
use Rattle.redo_model.proofs.runs.moved_row_computes.Goals as goal

pub returns : goal.returns
returns c = laws.moved_right
