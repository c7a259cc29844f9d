use Rattle.history_laws.proofs.Acting as laws
use Rattle.history_laws.proofs.backs_end.Goals as goal

pub returns : goal.returns
returns c = laws.backs_end
