use Rattle.lower_laws.proofs.Computing as laws
use Rattle.lower_laws.proofs.lowering_computes.Goals as goal

pub returns : goal.returns
returns c = laws.lowering_right
