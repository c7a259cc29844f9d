use Rattle.history_laws.proofs.RefusedLaw as laws
use Rattle.history_laws.proofs.busy_is_refused.Goals as goal

pub returns : goal.returns
returns c = laws.busy_is_refused
