use Rattle.scan_table.proofs.Staying as laws
use Rattle.scan_table.proofs.laws.marks_are_lowerings.Goals as goal

pub returns : goal.returns
returns c = laws.marks_are_lowerings
