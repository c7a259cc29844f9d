use Rattle.mark_laws.proofs.MovesLaw as laws
use Rattle.mark_laws.proofs.marks_are_allowed.Goals as goal

pub returns : goal.returns
returns c = laws.marks_are_allowed
