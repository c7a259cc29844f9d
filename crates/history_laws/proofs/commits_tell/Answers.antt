use Rattle.history_laws.proofs.OneEvent as laws
use Rattle.history_laws.proofs.commits_tell.Goals as goal

pub returns : goal.returns
returns c = laws.commits_tell
