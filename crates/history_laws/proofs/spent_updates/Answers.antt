use Rattle.history_laws.proofs.Answered as laws
use Rattle.history_laws.proofs.spent_updates.Goals as goal

pub returns : goal.returns
returns c = laws.spent_updates
