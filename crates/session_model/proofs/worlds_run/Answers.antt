use Rattle.session_model.proofs.Running as laws
use Rattle.session_model.proofs.worlds_run.Goals as goal

pub returns : goal.returns
returns c = laws.worlds_run
