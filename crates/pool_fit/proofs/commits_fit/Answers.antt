use Rattle.pool_fit.proofs.FitsLaw.{commits_fit as law}
use Rattle.pool_fit.proofs.commits_fit.Goals as goal

pub returns : goal.returns
returns c = law
