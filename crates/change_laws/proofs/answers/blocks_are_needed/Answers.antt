use Rattle.change_laws.proofs.AnswerLaw as laws
use Rattle.change_laws.proofs.answers.blocks_are_needed.Goals as goal

pub returns : goal.returns
returns c = laws.blocks_are_needed
