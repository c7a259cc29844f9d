use Rattle.history_laws.proofs.OneEvent as laws
use Rattle.history_laws.proofs.tables_tell.Goals as goal

pub returns : goal.returns
returns c = laws.tables_tell
