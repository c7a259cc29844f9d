use Rattle.space_laws.proofs.BestsLaw as laws
use Rattle.space_laws.proofs.bests_are_stated.Goals as goal

pub returns : goal.returns
returns c = laws.bests_are_stated
