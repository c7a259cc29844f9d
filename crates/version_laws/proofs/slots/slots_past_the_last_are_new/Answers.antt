use Rattle.version_laws.proofs.SlotLaw as laws
use Rattle.version_laws.proofs.slots.slots_past_the_last_are_new.Goals as goal

pub returns : goal.returns
returns c = laws.slots_past_the_last
