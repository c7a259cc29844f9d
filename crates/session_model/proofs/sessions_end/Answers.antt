use Rattle.session_model.proofs.Events as laws
use Rattle.session_model.proofs.sessions_end.Goals as goal

pub returns : goal.returns
returns c = laws.sessions_end
