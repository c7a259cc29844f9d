use Rattle.redo_laws.proofs.undo.ReadsLaw as laws
use Rattle.redo_laws.proofs.rows.undo_is_read.Goals as goal

pub returns : goal.returns
returns c = laws.undo_is_read
