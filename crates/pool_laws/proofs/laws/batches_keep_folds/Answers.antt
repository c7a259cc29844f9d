use Rattle.pool_laws.proofs.Folds.{batch_folded}
use Rattle.pool_laws.proofs.laws.batches_keep_folds.Goals as goal

pub returns : goal.returns
returns c = batch_folded
