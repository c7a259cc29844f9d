use Rattle.shrink_move.proofs.OneLaw as laws
use Rattle.shrink_move.proofs.laws.nexts_are_one.Goals as goal

pub returns : goal.returns
returns c = laws.nexts_are_one
