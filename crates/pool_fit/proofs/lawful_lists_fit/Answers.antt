use Rattle.pool_fit.proofs.FitsLaw.{lawful_lists_fit as law}
use Rattle.pool_fit.proofs.lawful_lists_fit.Goals as goal

pub returns : goal.returns
returns c = law
