use Rattle.version_laws.proofs.SlotLaw as laws
use Rattle.version_laws.proofs.slots.addresses_are_past.Goals as goal

pub returns : goal.returns
returns c = laws.addresses_are_past
