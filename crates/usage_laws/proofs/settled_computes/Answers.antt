use Rattle.usage_laws.proofs.Computing as laws
use Rattle.usage_laws.proofs.settled_computes.Goals as goal

pub returns : goal.returns
returns c = laws.settled_right
