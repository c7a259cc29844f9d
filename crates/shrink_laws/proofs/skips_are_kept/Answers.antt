use Rattle.shrink_laws.proofs.CursorLaw as laws
use Rattle.shrink_laws.proofs.skips_are_kept.Goals as goal

pub returns : goal.returns
returns c = laws.skips_are_kept
