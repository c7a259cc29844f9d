use Rattle.version_laws.proofs.Reached as laws
use Rattle.version_laws.proofs.walks.now_is_reached.Goals as goal

pub returns : goal.returns
returns c = laws.now_is_reached
