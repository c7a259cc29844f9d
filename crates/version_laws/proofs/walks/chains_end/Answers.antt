use Rattle.version_laws.proofs.EndLaw as laws
use Rattle.version_laws.proofs.walks.chains_end.Goals as goal

pub returns : goal.returns
returns c = laws.chains_end
