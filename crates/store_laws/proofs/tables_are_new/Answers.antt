use Rattle.store_laws.proofs.KindsLaw.{tables_are_new as law}
use Rattle.store_laws.proofs.tables_are_new.Goals as goal

pub returns : goal.returns
returns c = law
