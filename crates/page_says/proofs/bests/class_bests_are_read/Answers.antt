use Rattle.page_says.proofs.BestsRead.{class_bests_are_read as law}
use Rattle.page_says.proofs.bests.class_bests_are_read.Goals as goal

pub returns : goal.returns
returns c = law
