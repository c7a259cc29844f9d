use Rattle.end_laws.proofs.Allowed as laws
use Rattle.end_laws.proofs.ends_are_allowed.Goals as goal

pub returns : goal.returns
returns c = laws.ends_are_allowed
