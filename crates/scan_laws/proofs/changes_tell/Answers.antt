use Rattle.scan_laws.proofs.ChangesLaw as laws
use Rattle.scan_laws.proofs.changes_tell.Goals as goal

pub returns : goal.returns
returns c = laws.changes_tell
