use Rattle.redo_laws.proofs.spelled.SpelledLaw as laws
use Rattle.redo_laws.proofs.rows.records_are_spelled.Goals as goal

pub returns : goal.returns
returns c = laws.records_are_spelled
