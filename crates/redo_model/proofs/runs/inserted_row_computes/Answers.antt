use Rattle.redo_model.proofs.Computing as laws
use Rattle.redo_model.proofs.runs.inserted_row_computes.Goals as goal

pub returns : goal.returns
returns c = laws.nine_right
