use Rattle.history_laws.proofs.Changing as laws
use Rattle.history_laws.proofs.deletes_tell.Goals as goal

pub returns : goal.returns
returns c = laws.deletes_tell
