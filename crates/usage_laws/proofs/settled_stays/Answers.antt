use Rattle.usage_laws.proofs.StaysLaw as laws
use Rattle.usage_laws.proofs.settled_stays.Goals as goal

pub returns : goal.returns
returns c = laws.settled_stays
