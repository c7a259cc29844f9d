use Rattle.redo_laws.proofs.spread.StaysLaw as laws
use Rattle.redo_laws.proofs.rows.blocks_stay.Goals as goal

pub returns : goal.returns
returns c = laws.blocks_stay
