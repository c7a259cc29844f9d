use Rattle.data_places.proofs.PlacesLaw as laws
use Rattle.data_places.proofs.laws.counts_tell.Goals as goal

pub returns : goal.returns
returns c = laws.counts_are_told
