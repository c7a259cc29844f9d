use Rattle.space_laws.proofs.ExtentsLaw as laws
use Rattle.space_laws.proofs.first_extents_stay.Goals as goal

pub returns : goal.returns
returns c = laws.first_extents_stay
