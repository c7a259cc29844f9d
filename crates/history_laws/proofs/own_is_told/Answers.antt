use Rattle.history_laws.proofs.Telling as laws
use Rattle.history_laws.proofs.own_is_told.Goals as goal

pub returns : goal.returns
returns c = laws.own_is_told
