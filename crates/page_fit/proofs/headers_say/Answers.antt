use Rattle.page_fit.proofs.HeaderLaw.{headers_say as law}
use Rattle.page_fit.proofs.headers_say.Goals as goal

pub returns : goal.returns
returns c = law
