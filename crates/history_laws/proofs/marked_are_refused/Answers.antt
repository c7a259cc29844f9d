use Rattle.history_laws.proofs.ScanRefusals as laws
use Rattle.history_laws.proofs.marked_are_refused.Goals as goal

pub returns : goal.returns
returns c = laws.marked_are_refused
