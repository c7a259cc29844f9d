use Rattle.history_laws.proofs.Telling as laws
use Rattle.history_laws.proofs.others_are_told.Goals as goal

pub returns : goal.returns
returns c = laws.others_are_told
