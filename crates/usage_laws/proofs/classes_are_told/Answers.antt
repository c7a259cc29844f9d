use Rattle.usage_laws.proofs.BestsLaw as laws
use Rattle.usage_laws.proofs.classes_are_told.Goals as goal

pub returns : goal.returns
returns c = laws.classes_are_told
