use Rattle.page_fit.proofs.FitLaw.{records_fit_pages as law}
use Rattle.page_fit.proofs.records_fit_pages.Goals as goal

pub returns : goal.returns
returns c = law
