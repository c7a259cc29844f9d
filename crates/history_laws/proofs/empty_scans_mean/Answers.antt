use Rattle.history_laws.proofs.Scans as laws
use Rattle.history_laws.proofs.empty_scans_mean.Goals as goal

pub returns : goal.returns
returns c = laws.empty_scans_mean
