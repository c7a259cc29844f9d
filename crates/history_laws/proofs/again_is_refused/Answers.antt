use Rattle.history_laws.proofs.RefusedLaw as laws
use Rattle.history_laws.proofs.again_is_refused.Goals as goal

pub returns : goal.returns
returns c = laws.again_is_refused
