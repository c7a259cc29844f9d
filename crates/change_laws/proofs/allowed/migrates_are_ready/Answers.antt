use Rattle.change_laws.proofs.ReadyLaw as laws
use Rattle.change_laws.proofs.allowed.migrates_are_ready.Goals as goal

pub returns : goal.returns
returns c = laws.migrates_are_ready
