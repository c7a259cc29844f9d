use Rattle.page_says.proofs.SpaceLaw.{spaces_say as law}
use Rattle.page_says.proofs.spaces_say.Goals as goal

pub returns : goal.returns
returns c = law
