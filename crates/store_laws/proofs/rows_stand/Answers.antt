use Rattle.store_laws.proofs.KindsLaw.{rows_stand as law}
use Rattle.store_laws.proofs.rows_stand.Goals as goal

pub returns : goal.returns
returns c = law
