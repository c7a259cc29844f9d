use Rattle.change_laws.proofs.SpotLaw as laws
use Rattle.change_laws.proofs.allowed.begins_are_lawful.Goals as goal

pub returns : goal.returns
returns c = laws.begins_are_lawful
