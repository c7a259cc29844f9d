use Rattle.pool_laws.proofs.Folds.{new_folded}
use Rattle.pool_laws.proofs.laws.new_files_are_folded.Goals as goal

pub returns : goal.returns
returns c = new_folded
