use Rattle.version_laws.proofs.SlotLaw as laws
use Rattle.version_laws.proofs.tables.begun_from_one.Goals as goal

pub returns : goal.returns
returns c = laws.begun_from_one
