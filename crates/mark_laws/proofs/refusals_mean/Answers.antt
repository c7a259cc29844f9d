use Rattle.mark_laws.proofs.RefusalsLaw as laws
use Rattle.mark_laws.proofs.refusals_mean.Goals as goal

pub returns : goal.returns
returns c = laws.refusals_mean
