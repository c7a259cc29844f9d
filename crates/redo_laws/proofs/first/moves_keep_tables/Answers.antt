use Rattle.redo_laws.proofs.steps.Adding as laws
use Rattle.redo_laws.proofs.first.moves_keep_tables.Goals as goal

pub returns : goal.returns
returns c = laws.moves_keep_tables
