use Rattle.redo_laws.proofs.steps.Adding as laws
use Rattle.redo_laws.proofs.first.others_are_left.Goals as goal

pub returns : goal.returns
returns c = laws.others_are_left
