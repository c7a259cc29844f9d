use Rattle.pool_laws.proofs.Folds.{folds_have_fewer}
use Rattle.pool_laws.proofs.laws.folds_have_fewer.Goals as goal

pub returns : goal.returns
returns c = folds_have_fewer
