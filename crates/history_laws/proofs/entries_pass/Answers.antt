use Rattle.history_laws.proofs.RefusedLaw as laws
use Rattle.history_laws.proofs.entries_pass.Goals as goal

pub returns : goal.returns
returns c = laws.entries_pass
