use Rattle.shrink_laws.proofs.CursorLaw as laws
use Rattle.shrink_laws.proofs.moving_keeps.Goals as goal

pub returns : goal.returns
returns c = laws.moving_keeps
