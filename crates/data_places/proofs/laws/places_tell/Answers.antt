use Rattle.data_places.proofs.PlacesLaw as laws
use Rattle.data_places.proofs.laws.places_tell.Goals as goal

pub returns : goal.returns
returns c = laws.places_are_told
