use Rattle.settle_laws.proofs.ClassesLaw as laws
use Rattle.settle_laws.proofs.classes_stay.Goals as goal

pub returns : goal.returns
returns c = laws.classes_stay
