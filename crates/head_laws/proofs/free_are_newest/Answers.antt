use Rattle.head_laws.proofs.HeadLaw as laws
use Rattle.head_laws.proofs.free_are_newest.Goals as goal

pub returns : goal.returns
returns c = laws.free_are_newest
