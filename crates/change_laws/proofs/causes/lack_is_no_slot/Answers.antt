use Rattle.change_laws.proofs.CauseLaw as laws
use Rattle.change_laws.proofs.causes.lack_is_no_slot.Goals as goal

pub returns : goal.returns
returns c = laws.lack_is_no_slot
