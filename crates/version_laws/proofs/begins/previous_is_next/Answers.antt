use Rattle.version_laws.proofs.Linking as laws
use Rattle.version_laws.proofs.begins.previous_is_next.Goals as goal

pub returns : goal.returns
returns c = laws.previous_is_next
