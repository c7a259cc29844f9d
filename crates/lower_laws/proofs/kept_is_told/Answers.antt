use Rattle.lower_laws.proofs.KeptLaw as laws
use Rattle.lower_laws.proofs.kept_is_told.Goals as goal

pub returns : goal.returns
returns c = laws.kept_is_told
