use Rattle.store_laws.proofs.KindsLaw.{rows_are_held as law}
use Rattle.store_laws.proofs.rows_are_held.Goals as goal

pub returns : goal.returns
returns c = law
