use Rattle.head_laws.proofs.HeadLaw as laws
use Rattle.head_laws.proofs.whole_rows_are_sought.Goals as goal

pub returns : goal.returns
returns c = laws.whole_rows_are_sought
