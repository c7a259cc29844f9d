use Rattle.rollback_laws.proofs.GoesOnLaw as laws
use Rattle.rollback_laws.proofs.closing_goes_on.Goals as goal

pub returns : goal.returns
returns c = laws.closing_goes_on
