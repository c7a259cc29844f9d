use Rattle.mark_laws.proofs.ThereLaw as laws
use Rattle.mark_laws.proofs.tables_have_extents.Goals as goal

pub returns : goal.returns
returns c = laws.tables_have_extents
