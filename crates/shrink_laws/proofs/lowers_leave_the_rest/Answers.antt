use Rattle.shrink_laws.proofs.LoweredLaw as laws
use Rattle.shrink_laws.proofs.lowers_leave_the_rest.Goals as goal

pub returns : goal.returns
returns c = laws.lowers_leave_the_rest
