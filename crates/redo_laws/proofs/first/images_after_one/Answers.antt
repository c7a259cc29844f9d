use Rattle.redo_laws.proofs.steps.Adding as laws
use Rattle.redo_laws.proofs.first.images_after_one.Goals as goal

pub returns : goal.returns
returns c = laws.images_after_one
