use Rattle.history_laws.proofs.Answered as laws
use Rattle.history_laws.proofs.busy_answers.Goals as goal

pub returns : goal.returns
returns c = laws.busy_answers
