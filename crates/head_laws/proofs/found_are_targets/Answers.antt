use Rattle.head_laws.proofs.HeadLaw as laws
use Rattle.head_laws.proofs.found_are_targets.Goals as goal

pub returns : goal.returns
returns c = laws.found_are_targets
