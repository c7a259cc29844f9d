use Rattle.redo_laws.proofs.spread.SpreadLaw as laws
use Rattle.redo_laws.proofs.rows.rows_are_spread.Goals as goal

pub returns : goal.returns
returns c = laws.rows_are_spread
