use Rattle.scan_laws.proofs.StayingLaw as laws
use Rattle.scan_laws.proofs.released_are_gone.Goals as goal

pub returns : goal.returns
returns c = laws.released_are_gone
