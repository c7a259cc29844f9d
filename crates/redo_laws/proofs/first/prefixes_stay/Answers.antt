use Rattle.redo_laws.proofs.lists.Prefixes as laws
use Rattle.redo_laws.proofs.first.prefixes_stay.Goals as goal

pub returns : goal.returns
returns c = laws.prefixes_stay
