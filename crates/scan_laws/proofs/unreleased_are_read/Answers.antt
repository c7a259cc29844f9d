use Rattle.scan_laws.proofs.StayingLaw as laws
use Rattle.scan_laws.proofs.unreleased_are_read.Goals as goal

pub returns : goal.returns
returns c = laws.unreleased_are_read
