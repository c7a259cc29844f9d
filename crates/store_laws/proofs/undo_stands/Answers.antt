use Rattle.store_laws.proofs.KindsLaw.{undo_stands as law}
use Rattle.store_laws.proofs.undo_stands.Goals as goal

pub returns : goal.returns
returns c = law
