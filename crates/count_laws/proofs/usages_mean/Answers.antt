use Rattle.count_laws.proofs.CountsLaw as laws
use Rattle.count_laws.proofs.usages_mean.Goals as goal

pub returns : goal.returns
returns c = laws.usages_mean
