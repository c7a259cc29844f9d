use Rattle.history_laws.proofs.Shrinks as laws
use Rattle.history_laws.proofs.compacts_mean.Goals as goal

pub returns : goal.returns
returns c = laws.compacts_mean
