use Rattle.history_laws.proofs.Acting as laws
use Rattle.history_laws.proofs.inserts_move.Goals as goal

pub returns : goal.returns
returns c = laws.inserts_move
