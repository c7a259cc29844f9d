use Rattle.redo_laws.proofs.room.FitLaw as laws
use Rattle.redo_laws.proofs.rows.records_fit_blocks.Goals as goal

pub returns : goal.returns
returns c = laws.records_fit_blocks
