use Rattle.sort_laws.proofs.MeetsLaw as laws
use Rattle.sort_laws.proofs.records_meet_sorts.Goals as goal

pub returns : goal.returns
returns c = laws.records_meet_sorts
