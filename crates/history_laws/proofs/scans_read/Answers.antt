use Rattle.history_laws.proofs.Scans as laws
use Rattle.history_laws.proofs.scans_read.Goals as goal

pub returns : goal.returns
returns c = laws.scans_read
