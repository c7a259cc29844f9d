use Rattle.scan_table.proofs.Serving as laws
use Rattle.scan_table.proofs.laws.scans_are_work.Goals as goal

pub returns : goal.returns
returns c = laws.scans_are_work
