use Rattle.redo_model.proofs.Computing as laws
use Rattle.redo_model.proofs.runs.reused_undo_computes.Goals as goal

pub returns : goal.returns
returns c = laws.reused_right
