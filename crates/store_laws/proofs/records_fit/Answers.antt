use Rattle.store_laws.proofs.PuttingLaw.{records_fit as law}
use Rattle.store_laws.proofs.records_fit.Goals as goal

pub returns : goal.returns
returns c = law
