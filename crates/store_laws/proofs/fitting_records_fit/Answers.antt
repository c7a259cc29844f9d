use Rattle.store_laws.proofs.PuttingLaw.{fitting_records_fit as law}
use Rattle.store_laws.proofs.fitting_records_fit.Goals as goal

pub returns : goal.returns
returns c = law
