use Rattle.history_laws.proofs.Answered as laws
use Rattle.history_laws.proofs.needs_seek.Goals as goal

pub returns : goal.returns
returns c = laws.needs_seek
