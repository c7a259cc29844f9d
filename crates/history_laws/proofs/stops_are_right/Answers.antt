use Rattle.history_laws.proofs.Shrinking as laws
use Rattle.history_laws.proofs.stops_are_right.Goals as goal

pub returns : goal.returns
returns c = laws.stops_are_right
