use Rattle.lowering.proofs.AnswersLaw as laws
use Rattle.lowering.proofs.laws.lowerings_mean.Goals as goal

pub returns : goal.returns
returns c = laws.lowerings_mean
