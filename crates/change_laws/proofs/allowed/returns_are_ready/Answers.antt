use Rattle.change_laws.proofs.ReadyLaw as laws
use Rattle.change_laws.proofs.allowed.returns_are_ready.Goals as goal

pub returns : goal.returns
returns c = laws.returns_are_ready
