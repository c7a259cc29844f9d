use Rattle.change_laws.proofs.ReadyLaw as laws
use Rattle.change_laws.proofs.allowed.updates_are_ready.Goals as goal

pub returns : goal.returns
returns c = laws.updates_are_ready
