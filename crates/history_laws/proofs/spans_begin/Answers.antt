use Rattle.history_laws.proofs.Telling as laws
use Rattle.history_laws.proofs.spans_begin.Goals as goal

pub returns : goal.returns
returns c = laws.spans_begin
