use Rattle.scan_laws.proofs.StayingLaw as laws
use Rattle.scan_laws.proofs.row_blocks_stay_since.Goals as goal

pub returns : goal.returns
returns c = laws.row_blocks_stay_since
