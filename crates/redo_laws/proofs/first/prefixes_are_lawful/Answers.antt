use Rattle.redo_laws.proofs.steps.Adding as laws
use Rattle.redo_laws.proofs.first.prefixes_are_lawful.Goals as goal

pub returns : goal.returns
returns c = laws.prefixes_are_lawful
