use Rattle.history_laws.proofs.RefusedLaw as laws
use Rattle.history_laws.proofs.writes_pass.Goals as goal

pub returns : goal.returns
returns c = laws.writes_pass
