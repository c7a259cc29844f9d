use Rattle.session_model.proofs.Events as laws
use Rattle.session_model.proofs.shrinks_are_busy.Goals as goal

pub returns : goal.returns
returns c = laws.shrinks_are_busy
