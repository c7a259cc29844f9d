use Rattle.mark_laws.proofs.MovementsLaw as laws
use Rattle.mark_laws.proofs.next_marks_mean.Goals as goal

pub returns : goal.returns
returns c = laws.next_marks_mean
