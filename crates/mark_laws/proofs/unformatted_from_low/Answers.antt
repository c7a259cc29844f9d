use Rattle.mark_laws.proofs.ThereLaw as laws
use Rattle.mark_laws.proofs.unformatted_from_low.Goals as goal

pub returns : goal.returns
returns c = laws.unformatted_from_low
