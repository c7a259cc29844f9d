use Rattle.session_laws.proofs.OwnersLaw as laws
use Rattle.session_laws.proofs.records_have_sessions.Goals as goal

pub returns : goal.returns
returns c = laws.records_have_sessions
