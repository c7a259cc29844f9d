use Rattle.history_laws.proofs.OneEvent as laws
use Rattle.history_laws.proofs.fixes_tell.Goals as goal

pub returns : goal.returns
returns c = laws.fixes_tell
