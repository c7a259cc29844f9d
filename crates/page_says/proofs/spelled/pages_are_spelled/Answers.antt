use Rattle.page_says.proofs.SpelledLaw.{pages_are_spelled as law}
use Rattle.page_says.proofs.spelled.pages_are_spelled.Goals as goal

pub returns : goal.returns
returns c = law
