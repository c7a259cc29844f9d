use Rattle.history_laws.proofs.Shrinking as laws
use Rattle.history_laws.proofs.shrinks_skip.Goals as goal

pub returns : goal.returns
returns c = laws.shrinks_skip
