use Rattle.version_laws.proofs.EndLaw as laws
use Rattle.version_laws.proofs.walks.now_is_found.Goals as goal

pub returns : goal.returns
returns c = laws.now_is_found
