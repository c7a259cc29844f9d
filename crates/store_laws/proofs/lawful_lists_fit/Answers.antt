use Rattle.store_laws.proofs.PuttingLaw.{lawful_lists_fit as law}
use Rattle.store_laws.proofs.lawful_lists_fit.Goals as goal

pub returns : goal.returns
returns c = law
