use Rattle.history_laws.proofs.Shrinks as laws
use Rattle.history_laws.proofs.last_extents_stay.Goals as goal

pub returns : goal.returns
returns c = laws.last_extents_stay
