use Rattle.mark_laws.proofs.MovesLaw as laws
use Rattle.mark_laws.proofs.tables_are_made.Goals as goal

pub returns : goal.returns
returns c = laws.tables_are_made
