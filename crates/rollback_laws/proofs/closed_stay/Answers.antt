use Rattle.rollback_laws.proofs.StepsLaw as laws
use Rattle.rollback_laws.proofs.closed_stay.Goals as goal

pub returns : goal.returns
returns c = laws.closed_stay
