use Rattle.place_laws.proofs.LocatedLaw as laws
use Rattle.place_laws.proofs.located_are_found.Goals as goal

pub returns : goal.returns
returns c = laws.located_are_found
