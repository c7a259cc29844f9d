use Rattle.redo_laws.proofs.spread.StaysLaw as laws
use Rattle.redo_laws.proofs.rows.views_stay.Goals as goal

pub returns : goal.returns
returns c = laws.views_stay
