use Rattle.end_laws.proofs.Allowed as laws
use Rattle.end_laws.proofs.backs_are_allowed.Goals as goal

pub returns : goal.returns
returns c = laws.backs_are_allowed
