use Rattle.history_laws.proofs.Frames as laws
use Rattle.history_laws.proofs.events_leave_transactions.Goals as goal

pub returns : goal.returns
returns c = laws.events_leave_transactions
