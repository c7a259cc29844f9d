use Rattle.history_laws.proofs.Answered as laws
use Rattle.history_laws.proofs.taken_answers.Goals as goal

pub returns : goal.returns
returns c = laws.taken_answers
