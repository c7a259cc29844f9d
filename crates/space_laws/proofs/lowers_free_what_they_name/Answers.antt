use Rattle.space_laws.proofs.ExtentsLaw as laws
use Rattle.space_laws.proofs.lowers_free_what_they_name.Goals as goal

pub returns : goal.returns
returns c = laws.lowers_free_what_they_name
