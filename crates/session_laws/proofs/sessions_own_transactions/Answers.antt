use Rattle.session_laws.proofs.OwnersLaw as laws
use Rattle.session_laws.proofs.sessions_own_transactions.Goals as goal

pub returns : goal.returns
returns c = laws.sessions_own_transactions
