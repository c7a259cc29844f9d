use Rattle.open_laws.proofs.BeginsLaw as laws
use Rattle.open_laws.proofs.few_are_active.Goals as goal

pub returns : goal.returns
returns c = laws.few_are_active
