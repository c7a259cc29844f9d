use Rattle.pool_fit.proofs.FitsLaw.{lawful_lists_dont_stop as law}
use Rattle.pool_fit.proofs.lawful_lists_dont_stop.Goals as goal

pub returns : goal.returns
returns c = law
