use Rattle.space_laws.proofs.MarksLaw as laws
use Rattle.space_laws.proofs.tables_are_few.Goals as goal

pub returns : goal.returns
returns c = laws.tables_are_few
