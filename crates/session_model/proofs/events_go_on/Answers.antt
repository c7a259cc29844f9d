use Rattle.session_model.proofs.Events as laws
use Rattle.session_model.proofs.events_go_on.Goals as goal

pub returns : goal.returns
returns c = laws.events_go_on
