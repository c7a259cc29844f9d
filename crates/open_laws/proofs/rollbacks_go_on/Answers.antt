use Rattle.open_laws.proofs.BacksLaw as laws
use Rattle.open_laws.proofs.rollbacks_go_on.Goals as goal

pub returns : goal.returns
returns c = laws.rollbacks_go_on
