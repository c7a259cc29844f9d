use Rattle.change_laws.proofs.SpotLaw as laws
use Rattle.change_laws.proofs.allowed.full_is_told.Goals as goal

pub returns : goal.returns
returns c = laws.full_is_told
