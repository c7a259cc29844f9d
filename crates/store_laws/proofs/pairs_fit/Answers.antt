use Rattle.store_laws.proofs.PuttingLaw.{pairs_fit as law}
use Rattle.store_laws.proofs.pairs_fit.Goals as goal

pub returns : goal.returns
returns c = law
