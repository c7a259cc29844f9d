use Rattle.usage_laws.proofs.CleanLaw as laws
use Rattle.usage_laws.proofs.cleans_are_allowed.Goals as goal

pub returns : goal.returns
returns c = laws.cleans_are_allowed
