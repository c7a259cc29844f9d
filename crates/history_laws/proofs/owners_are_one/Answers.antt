use Rattle.history_laws.proofs.Owned as laws
use Rattle.history_laws.proofs.owners_are_one.Goals as goal

pub returns : goal.returns
returns c = laws.owners_are_one
