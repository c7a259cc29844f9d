use Rattle.history_laws.proofs.Acting as laws
use Rattle.history_laws.proofs.backs_begin.Goals as goal

pub returns : goal.returns
returns c = laws.backs_begin
