use Rattle.head_laws.proofs.HeadLaw as laws
use Rattle.head_laws.proofs.targets_are_other.Goals as goal

pub returns : goal.returns
returns c = laws.targets_are_other
