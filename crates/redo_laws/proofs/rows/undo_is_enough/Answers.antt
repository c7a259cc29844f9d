use Rattle.redo_laws.proofs.undo.EconomyLaw as laws
use Rattle.redo_laws.proofs.rows.undo_is_enough.Goals as goal

pub returns : goal.returns
returns c = laws.undo_is_enough
