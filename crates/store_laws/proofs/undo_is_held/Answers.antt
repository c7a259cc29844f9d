use Rattle.store_laws.proofs.KindsLaw.{undo_is_held as law}
use Rattle.store_laws.proofs.undo_is_held.Goals as goal

pub returns : goal.returns
returns c = law
