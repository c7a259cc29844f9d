use Rattle.history_laws.proofs.RefusedLaw as laws
use Rattle.history_laws.proofs.no_extent_is_refused.Goals as goal

pub returns : goal.returns
returns c = laws.no_extent_is_refused
