use Rattle.usage_laws.proofs.CallsLaw as laws
use Rattle.usage_laws.proofs.calls_are_meant.Goals as goal

pub returns : goal.returns
returns c = laws.calls_are_meant
