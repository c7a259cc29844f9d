use Rattle.history_laws.proofs.Ways as laws
use Rattle.history_laws.proofs.runs_end.Goals as goal

pub returns : goal.returns
returns c = laws.runs_end
