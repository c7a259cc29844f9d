use Rattle.history_laws.proofs.RefusedLaw as laws
use Rattle.history_laws.proofs.undo_full_is_refused.Goals as goal

pub returns : goal.returns
returns c = laws.undo_full_is_refused
