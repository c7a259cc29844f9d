use Rattle.version_laws.proofs.NewestLaw as laws
use Rattle.version_laws.proofs.rows.given_are_newest.Goals as goal

pub returns : goal.returns
returns c = laws.given_are_newest
