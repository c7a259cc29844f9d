use Rattle.mark_laws.proofs.ThereLaw as laws
use Rattle.mark_laws.proofs.codes_tell.Goals as goal

pub returns : goal.returns
returns c = laws.codes_tell
