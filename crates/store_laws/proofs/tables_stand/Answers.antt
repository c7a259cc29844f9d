use Rattle.store_laws.proofs.KindsLaw.{tables_stand as law}
use Rattle.store_laws.proofs.tables_stand.Goals as goal

pub returns : goal.returns
returns c = law
