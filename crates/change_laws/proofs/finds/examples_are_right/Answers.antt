use Rattle.change_laws.proofs.Computing as laws
use Rattle.change_laws.proofs.finds.examples_are_right.Goals as goal

pub returns : goal.returns
returns c = laws.examples_right
