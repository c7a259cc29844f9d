use Rattle.open_laws.proofs.BeginsLaw as laws
use Rattle.open_laws.proofs.sessions_can_begin.Goals as goal

pub returns : goal.returns
returns c = laws.sessions_can_begin
