use Rattle.session_model.proofs.Events as laws
use Rattle.session_model.proofs.worlds_begin.Goals as goal

pub returns : goal.returns
returns c = laws.worlds_begin
