use Rattle.sort_laws.proofs.TouchedLaw as laws
use Rattle.sort_laws.proofs.touched_are_there.Goals as goal

pub returns : goal.returns
returns c = laws.touched_are_there
