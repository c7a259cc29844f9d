use Rattle.page_fit.proofs.Headed.{headers_are_stated as law}
use Rattle.page_fit.proofs.headers_are_stated.Goals as goal

pub returns : goal.returns
returns c = law
