use Rattle.redo_laws.proofs.links.WritersLaw as laws
use Rattle.redo_laws.proofs.rows.writers_are_told.Goals as goal

pub returns : goal.returns
returns c = laws.writers_are_told
