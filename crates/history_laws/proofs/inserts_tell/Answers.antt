use Rattle.history_laws.proofs.Changing as laws
use Rattle.history_laws.proofs.inserts_tell.Goals as goal

pub returns : goal.returns
returns c = laws.inserts_tell
