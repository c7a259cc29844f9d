use Rattle.history_laws.proofs.Passes as laws
use Rattle.history_laws.proofs.first_pass_later.Goals as goal

pub returns : goal.returns
returns c = laws.first_pass_later
