use Rattle.shrink_laws.proofs.CursorLaw as laws
use Rattle.shrink_laws.proofs.stops_rightly.Goals as goal

pub returns : goal.returns
returns c = laws.stops_rightly
