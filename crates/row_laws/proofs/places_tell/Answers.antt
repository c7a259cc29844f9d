use Rattle.row_laws.proofs.PlaceLaw as laws
use Rattle.row_laws.proofs.places_tell.Goals as goal

pub returns : goal.returns
returns c = laws.places_tell
