use Rattle.change_laws.proofs.LookLaw as laws
use Rattle.change_laws.proofs.looks.rows_have_undo.Goals as goal

pub returns : goal.returns
returns c = laws.rows_have_undo
