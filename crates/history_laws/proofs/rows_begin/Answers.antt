use Rattle.history_laws.proofs.Acting as laws
use Rattle.history_laws.proofs.rows_begin.Goals as goal

pub returns : goal.returns
returns c = laws.rows_begin
