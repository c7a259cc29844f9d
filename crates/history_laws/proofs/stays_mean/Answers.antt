use Rattle.history_laws.proofs.Shrinks as laws
use Rattle.history_laws.proofs.stays_mean.Goals as goal

pub returns : goal.returns
returns c = laws.stays_mean
