use Rattle.end_laws.proofs.Begins as laws
use Rattle.end_laws.proofs.begins_are_told.Goals as goal

pub returns : goal.returns
returns c = laws.begins_are_told
