use Rattle.version_laws.proofs.NewestLaw as laws
use Rattle.version_laws.proofs.rows.rows_are_newest.Goals as goal

pub returns : goal.returns
returns c = laws.rows_are_newest
