use Rattle.history_laws.proofs.OneEvent as laws
use Rattle.history_laws.proofs.fixed_tell.Goals as goal

pub returns : goal.returns
returns c = laws.fixed_tell
