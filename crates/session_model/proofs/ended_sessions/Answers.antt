use Rattle.session_model.proofs.Events as laws
use Rattle.session_model.proofs.ended_sessions.Goals as goal

pub returns : goal.returns
returns c = laws.ended_sessions
