use Rattle.redo_laws.proofs.spread.PastLaw as laws
use Rattle.redo_laws.proofs.rows.past_is_lost.Goals as goal

pub returns : goal.returns
returns c = laws.past_is_lost
