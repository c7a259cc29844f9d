use Rattle.head_laws.proofs.NeedLaw as laws
use Rattle.head_laws.proofs.needs_are_met.Goals as goal

pub returns : goal.returns
returns c = laws.needs_are_met
