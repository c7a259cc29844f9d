use Rattle.store_pages.proofs.Filing.{new_files_have_folds}
use Rattle.store_pages.proofs.laws.new_files_have_folds.Goals as goal

pub returns : goal.returns
returns c = new_files_have_folds
