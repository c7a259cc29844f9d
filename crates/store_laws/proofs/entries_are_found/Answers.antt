use Rattle.store_laws.proofs.FoundLaw.{entries_are_found as law}
use Rattle.store_laws.proofs.entries_are_found.Goals as goal

pub returns : goal.returns
returns c = law
