use Rattle.store_pages.proofs.Filing.{folds_of_files_reach_back}
use Rattle.store_pages.proofs.laws.folds_of_files_reach_back.Goals as goal

pub returns : goal.returns
returns c = folds_of_files_reach_back
