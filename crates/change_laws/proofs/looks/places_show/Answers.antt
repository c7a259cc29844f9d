use Rattle.change_laws.proofs.LookLaw as laws
use Rattle.change_laws.proofs.looks.places_show.Goals as goal

pub returns : goal.returns
returns c = laws.places_show
