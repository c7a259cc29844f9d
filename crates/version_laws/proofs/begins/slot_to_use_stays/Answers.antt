use Rattle.version_laws.proofs.Begun as laws
use Rattle.version_laws.proofs.begins.slot_to_use_stays.Goals as goal

pub returns : goal.returns
returns c = laws.slot_to_use_stays
