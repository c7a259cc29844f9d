use Rattle.history_laws.proofs.Acting as laws
use Rattle.history_laws.proofs.updates_move.Goals as goal

pub returns : goal.returns
returns c = laws.updates_move
