use Rattle.history_laws.proofs.Owned as laws
use Rattle.history_laws.proofs.ways_are_known.Goals as goal

pub returns : goal.returns
returns c = laws.ways_are_known
