use Rattle.history_laws.proofs.Told as laws
use Rattle.history_laws.proofs.entries_stay.Goals as goal

pub returns : goal.returns
returns c = laws.entries_stay
