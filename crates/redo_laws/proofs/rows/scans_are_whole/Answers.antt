use Rattle.redo_laws.proofs.spread.ScanLaw as laws
use Rattle.redo_laws.proofs.rows.scans_are_whole.Goals as goal

pub returns : goal.returns
returns c = laws.scans_are_whole
