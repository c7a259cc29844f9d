use Rattle.scan_laws.proofs.RowsStayLaw as laws
use Rattle.scan_laws.proofs.rows_of_blocks_stay.Goals as goal

pub returns : goal.returns
returns c = laws.rows_of_blocks_stay
