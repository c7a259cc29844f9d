use Rattle.history_laws.proofs.ScanRefusals as laws
use Rattle.history_laws.proofs.unknown_are_refused.Goals as goal

pub returns : goal.returns
returns c = laws.unknown_are_refused
