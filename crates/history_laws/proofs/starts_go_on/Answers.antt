use Rattle.history_laws.proofs.Starts as laws
use Rattle.history_laws.proofs.starts_go_on.Goals as goal

pub returns : goal.returns
returns c = laws.starts_go_on
