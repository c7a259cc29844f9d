use Rattle.rollback_laws.proofs.StepsLaw as laws
use Rattle.rollback_laws.proofs.steps_close.Goals as goal

pub returns : goal.returns
returns c = laws.steps_close
