use Rattle.shrink_laws.proofs.CursorLaw as laws
use Rattle.shrink_laws.proofs.stops_rightly_at_bottom.Goals as goal

pub returns : goal.returns
returns c = laws.stops_rightly_at_bottom
