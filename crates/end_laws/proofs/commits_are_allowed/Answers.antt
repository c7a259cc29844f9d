use Rattle.end_laws.proofs.Allowed as laws
use Rattle.end_laws.proofs.commits_are_allowed.Goals as goal

pub returns : goal.returns
returns c = laws.commits_are_allowed
