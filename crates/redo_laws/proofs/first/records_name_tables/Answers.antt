use Rattle.redo_laws.proofs.steps.After as laws
use Rattle.redo_laws.proofs.first.records_name_tables.Goals as goal

pub returns : goal.returns
returns c = laws.records_name_tables
