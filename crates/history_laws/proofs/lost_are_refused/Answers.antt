use Rattle.history_laws.proofs.ScanRefusals as laws
use Rattle.history_laws.proofs.lost_are_refused.Goals as goal

pub returns : goal.returns
returns c = laws.lost_are_refused
