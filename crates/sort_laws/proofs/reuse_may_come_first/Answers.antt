use Rattle.sort_laws.proofs.MeetsLaw as laws
use Rattle.sort_laws.proofs.reuse_may_come_first.Goals as goal

pub returns : goal.returns
returns c = laws.reuse_may_come_first
