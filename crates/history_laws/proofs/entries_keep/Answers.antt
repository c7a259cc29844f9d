use Rattle.history_laws.proofs.Telling as laws
use Rattle.history_laws.proofs.entries_keep.Goals as goal

pub returns : goal.returns
returns c = laws.entries_keep
