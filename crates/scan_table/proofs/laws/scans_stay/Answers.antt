use Rattle.scan_table.proofs.Staying as laws
use Rattle.scan_table.proofs.laws.scans_stay.Goals as goal

pub returns : goal.returns
returns c = laws.scans_stay
