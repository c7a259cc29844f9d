use Rattle.redo_model.proofs.Computing as laws
use Rattle.redo_model.proofs.runs.migrated_row_computes.Goals as goal

pub returns : goal.returns
returns c = laws.migrated_right
