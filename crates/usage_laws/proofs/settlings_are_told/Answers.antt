use Rattle.usage_laws.proofs.ToldLaw as laws
use Rattle.usage_laws.proofs.settlings_are_told.Goals as goal

pub returns : goal.returns
returns c = laws.settlings_are_told
