use Rattle.history_laws.proofs.Passes as laws
use Rattle.history_laws.proofs.first_is_refused.Goals as goal

pub returns : goal.returns
returns c = laws.first_is_refused
