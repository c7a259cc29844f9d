use Rattle.history_laws.proofs.Ways as laws
use Rattle.history_laws.proofs.runs_are_legal.Goals as goal

pub returns : goal.returns
returns c = laws.runs_are_legal
