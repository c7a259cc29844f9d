use Rattle.pool_fit.proofs.TouchedLaw.{touched_have_pages as law}
use Rattle.pool_fit.proofs.touched_have_pages.Goals as goal

pub returns : goal.returns
returns c = law
