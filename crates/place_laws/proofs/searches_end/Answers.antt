use Rattle.place_laws.proofs.LocatedLaw as laws
use Rattle.place_laws.proofs.searches_end.Goals as goal

pub returns : goal.returns
returns c = laws.searches_end
