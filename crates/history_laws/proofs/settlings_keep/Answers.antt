use Rattle.history_laws.proofs.Ways as laws
use Rattle.history_laws.proofs.settlings_keep.Goals as goal

pub returns : goal.returns
returns c = laws.settlings_keep
