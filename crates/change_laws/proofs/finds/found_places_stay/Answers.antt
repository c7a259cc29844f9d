use Rattle.change_laws.proofs.FindLaw as laws
use Rattle.change_laws.proofs.finds.found_places_stay.Goals as goal

pub returns : goal.returns
returns c = laws.found_places_stay
