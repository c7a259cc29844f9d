use Rattle.usage_laws.proofs.ClassLaw as laws
use Rattle.usage_laws.proofs.classes_are_one.Goals as goal

pub returns : goal.returns
returns c = laws.classes_are_one
