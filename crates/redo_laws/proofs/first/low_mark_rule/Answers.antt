use Rattle.redo_laws.proofs.space.LowMark as laws
use Rattle.redo_laws.proofs.first.low_mark_rule.Goals as goal

pub returns : goal.returns
returns c = laws.low_mark
