use Rattle.change_laws.proofs.AnswerLaw as laws
use Rattle.change_laws.proofs.answers.answers_mean.Goals as goal

pub returns : goal.returns
returns c = laws.answers_mean
