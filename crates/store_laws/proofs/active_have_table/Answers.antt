use Rattle.store_laws.proofs.FoundLaw.{active_have_table as law}
use Rattle.store_laws.proofs.active_have_table.Goals as goal

pub returns : goal.returns
returns c = law
