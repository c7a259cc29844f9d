use Rattle.history_laws.proofs.Ways as laws
use Rattle.history_laws.proofs.sessions_run.Goals as goal

pub returns : goal.returns
returns c = laws.sessions_run
