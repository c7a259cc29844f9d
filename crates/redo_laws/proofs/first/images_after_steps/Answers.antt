use Rattle.redo_laws.proofs.steps.After as laws
use Rattle.redo_laws.proofs.first.images_after_steps.Goals as goal

pub returns : goal.returns
returns c = laws.images_after_steps
