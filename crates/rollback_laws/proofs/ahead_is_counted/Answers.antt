use Rattle.rollback_laws.proofs.ClosingLaw as laws
use Rattle.rollback_laws.proofs.ahead_is_counted.Goals as goal

pub returns : goal.returns
returns c = laws.ahead_is_counted
