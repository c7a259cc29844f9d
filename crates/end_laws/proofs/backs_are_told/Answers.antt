use Rattle.end_laws.proofs.Telling as laws
use Rattle.end_laws.proofs.backs_are_told.Goals as goal

pub returns : goal.returns
returns c = laws.backs_are_told
