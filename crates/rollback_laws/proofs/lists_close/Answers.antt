use Rattle.rollback_laws.proofs.ClosingLaw as laws
use Rattle.rollback_laws.proofs.lists_close.Goals as goal

pub returns : goal.returns
returns c = laws.lists_close
