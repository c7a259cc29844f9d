use Rattle.place_laws.proofs.LocatedLaw as laws
use Rattle.place_laws.proofs.given_are_at_home.Goals as goal

pub returns : goal.returns
returns c = laws.given_are_at_home
