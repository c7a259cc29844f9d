use Rattle.history_laws.proofs.Tests as laws
use Rattle.history_laws.proofs.first_causes_tell.Goals as goal

pub returns : goal.returns
returns c = laws.first_causes_tell
