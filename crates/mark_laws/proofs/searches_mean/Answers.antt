use Rattle.mark_laws.proofs.SearchesLaw as laws
use Rattle.mark_laws.proofs.searches_mean.Goals as goal

pub returns : goal.returns
returns c = laws.searches_mean
