use Rattle.page_fit.proofs.FitLaw.{formatted_blocks_have_rows as law}
use Rattle.page_fit.proofs.formatted_blocks_have_rows.Goals as goal

pub returns : goal.returns
returns c = law
