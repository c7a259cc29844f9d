use Rattle.space_laws.proofs.TablesLaw as laws
use Rattle.space_laws.proofs.tables_are_named.Goals as goal

pub returns : goal.returns
returns c = laws.tables_are_named
