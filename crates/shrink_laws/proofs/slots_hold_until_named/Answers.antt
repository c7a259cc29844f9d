use Rattle.shrink_laws.proofs.NamedLaw as laws
use Rattle.shrink_laws.proofs.slots_hold_until_named.Goals as goal

pub returns : goal.returns
returns c = laws.slots_hold_until_named
