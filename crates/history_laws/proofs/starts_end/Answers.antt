use Rattle.history_laws.proofs.Starts as laws
use Rattle.history_laws.proofs.starts_end.Goals as goal

pub returns : goal.returns
returns c = laws.starts_end
