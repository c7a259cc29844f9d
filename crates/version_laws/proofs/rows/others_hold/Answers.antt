use Rattle.version_laws.proofs.NewestLaw as laws
use Rattle.version_laws.proofs.rows.others_hold.Goals as goal

pub returns : goal.returns
returns c = laws.others_hold
