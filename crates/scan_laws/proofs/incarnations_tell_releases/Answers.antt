use Rattle.scan_laws.proofs.StayingLaw as laws
use Rattle.scan_laws.proofs.incarnations_tell_releases.Goals as goal

pub returns : goal.returns
returns c = laws.incarnations_tell_releases
