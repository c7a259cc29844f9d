use Rattle.change_laws.proofs.ReadyLaw as laws
use Rattle.change_laws.proofs.allowed.inserts_are_ready.Goals as goal

pub returns : goal.returns
returns c = laws.inserts_are_ready
