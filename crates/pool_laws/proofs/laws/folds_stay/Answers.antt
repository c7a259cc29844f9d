use Rattle.pool_laws.proofs.Folds.{folds_stay}
use Rattle.pool_laws.proofs.laws.folds_stay.Goals as goal

pub returns : goal.returns
returns c = folds_stay
