use Rattle.history_laws.proofs.Shrinking as laws
use Rattle.history_laws.proofs.cursors_come.Goals as goal

pub returns : goal.returns
returns c = laws.cursors_come
