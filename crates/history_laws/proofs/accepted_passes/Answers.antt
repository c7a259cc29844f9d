use Rattle.history_laws.proofs.Passes as laws
use Rattle.history_laws.proofs.accepted_passes.Goals as goal

pub returns : goal.returns
returns c = laws.accepted_passes
