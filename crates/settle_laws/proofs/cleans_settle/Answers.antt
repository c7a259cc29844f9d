use Rattle.settle_laws.proofs.CleanedLaw as laws
use Rattle.settle_laws.proofs.cleans_settle.Goals as goal

pub returns : goal.returns
returns c = laws.cleans_settle
