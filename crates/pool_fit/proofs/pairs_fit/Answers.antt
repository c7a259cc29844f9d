use Rattle.pool_fit.proofs.FitsLaw.{pairs_fit as law}
use Rattle.pool_fit.proofs.pairs_fit.Goals as goal

pub returns : goal.returns
returns c = law
