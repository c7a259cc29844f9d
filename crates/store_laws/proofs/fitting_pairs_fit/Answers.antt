use Rattle.store_laws.proofs.PuttingLaw.{fitting_pairs_fit as law}
use Rattle.store_laws.proofs.fitting_pairs_fit.Goals as goal

pub returns : goal.returns
returns c = law
