use Rattle.change_laws.proofs.SpotLaw as laws
use Rattle.change_laws.proofs.allowed.changes_are_lawful.Goals as goal

pub returns : goal.returns
returns c = laws.changes_are_lawful
