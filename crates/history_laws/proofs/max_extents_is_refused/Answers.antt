use Rattle.history_laws.proofs.RefusedLaw as laws
use Rattle.history_laws.proofs.max_extents_is_refused.Goals as goal

pub returns : goal.returns
returns c = laws.max_extents_is_refused
