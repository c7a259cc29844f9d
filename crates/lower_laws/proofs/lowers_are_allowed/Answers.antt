use Rattle.lower_laws.proofs.LowersLaw as laws
use Rattle.lower_laws.proofs.lowers_are_allowed.Goals as goal

pub returns : goal.returns
returns c = laws.lowers_are_allowed
