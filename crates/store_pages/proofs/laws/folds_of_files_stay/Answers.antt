use Rattle.store_pages.proofs.Filing.{folds_of_files_stay}
use Rattle.store_pages.proofs.laws.folds_of_files_stay.Goals as goal

pub returns : goal.returns
returns c = folds_of_files_stay
