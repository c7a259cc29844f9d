use Rattle.session_model.proofs.Repairing as laws
use Rattle.session_model.proofs.repairs_begin.Goals as goal

pub returns : goal.returns
returns c = laws.repairs_begin
