use Rattle.history_laws.proofs.Shrinking as laws
use Rattle.history_laws.proofs.shrinks_are_spent.Goals as goal

pub returns : goal.returns
returns c = laws.shrinks_are_spent
