use Rattle.session_laws.proofs.OwnersLaw as laws
use Rattle.session_laws.proofs.others_leave_sessions.Goals as goal

pub returns : goal.returns
returns c = laws.others_leave_sessions
