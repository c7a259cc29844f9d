use Rattle.shrink_laws.proofs.HeadsLaw as laws
use Rattle.shrink_laws.proofs.heads_are_apart.Goals as goal

pub returns : goal.returns
returns c = laws.heads_are_apart
