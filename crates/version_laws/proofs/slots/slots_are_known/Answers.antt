use Rattle.version_laws.proofs.SlotLaw as laws
use Rattle.version_laws.proofs.slots.slots_are_known.Goals as goal

pub returns : goal.returns
returns c = laws.slots_are_known
