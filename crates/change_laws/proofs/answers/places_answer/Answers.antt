use Rattle.change_laws.proofs.AnswerLaw as laws
use Rattle.change_laws.proofs.answers.places_answer.Goals as goal

pub returns : goal.returns
returns c = laws.places_answer
