use Rattle.pool_fit.proofs.FitsLaw.{records_fit as law}
use Rattle.pool_fit.proofs.records_fit.Goals as goal

pub returns : goal.returns
returns c = law
