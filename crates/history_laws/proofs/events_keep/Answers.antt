use Rattle.history_laws.proofs.Ways as laws
use Rattle.history_laws.proofs.events_keep.Goals as goal

pub returns : goal.returns
returns c = laws.events_keep
