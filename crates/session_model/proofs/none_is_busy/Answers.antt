use Rattle.session_model.proofs.Events as laws
use Rattle.session_model.proofs.none_is_busy.Goals as goal

pub returns : goal.returns
returns c = laws.none_is_busy
