use Rattle.pool_laws.proofs.Folds.{folds_reach_back}
use Rattle.pool_laws.proofs.laws.folds_reach_back.Goals as goal

pub returns : goal.returns
returns c = folds_reach_back
