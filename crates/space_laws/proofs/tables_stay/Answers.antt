use Rattle.space_laws.proofs.TablesLaw as laws
use Rattle.space_laws.proofs.tables_stay.Goals as goal

pub returns : goal.returns
returns c = laws.tables_stay
