use Rattle.change_laws.proofs.FindLaw as laws
use Rattle.change_laws.proofs.finds.rows_are_found_once.Goals as goal

pub returns : goal.returns
returns c = laws.rows_are_found_once
