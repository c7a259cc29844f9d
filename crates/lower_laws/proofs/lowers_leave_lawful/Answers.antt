use Rattle.lower_laws.proofs.LowersLaw as laws
use Rattle.lower_laws.proofs.lowers_leave_lawful.Goals as goal

pub returns : goal.returns
returns c = laws.lowers_leave_lawful
