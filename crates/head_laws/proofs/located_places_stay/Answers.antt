use Rattle.head_laws.proofs.HeadLaw as laws
use Rattle.head_laws.proofs.located_places_stay.Goals as goal

pub returns : goal.returns
returns c = laws.located_places_stay
