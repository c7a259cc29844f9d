use Rattle.history_laws.proofs.RefusedLaw as laws
use Rattle.history_laws.proofs.inserts_pass.Goals as goal

pub returns : goal.returns
returns c = laws.inserts_pass
