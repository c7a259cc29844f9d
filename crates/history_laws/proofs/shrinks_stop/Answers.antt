use Rattle.history_laws.proofs.Shrinks as laws
use Rattle.history_laws.proofs.shrinks_stop.Goals as goal

pub returns : goal.returns
returns c = laws.shrinks_stop
