use Rattle.page_fit.proofs.TableLaw.{tables_say as law}
use Rattle.page_fit.proofs.tables_say.Goals as goal

pub returns : goal.returns
returns c = law
