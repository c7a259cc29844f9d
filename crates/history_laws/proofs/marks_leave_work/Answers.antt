use Rattle.history_laws.proofs.Acting as laws
use Rattle.history_laws.proofs.marks_leave_work.Goals as goal

pub returns : goal.returns
returns c = laws.marks_leave_work
