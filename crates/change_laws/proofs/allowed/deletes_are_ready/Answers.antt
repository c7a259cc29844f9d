use Rattle.change_laws.proofs.ReadyLaw as laws
use Rattle.change_laws.proofs.allowed.deletes_are_ready.Goals as goal

pub returns : goal.returns
returns c = laws.deletes_are_ready
