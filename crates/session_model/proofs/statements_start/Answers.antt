use Rattle.session_model.proofs.Events as laws
use Rattle.session_model.proofs.statements_start.Goals as goal

pub returns : goal.returns
returns c = laws.statements_start
