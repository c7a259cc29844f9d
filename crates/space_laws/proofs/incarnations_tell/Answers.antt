use Rattle.space_laws.proofs.IncarnationsLaw as laws
use Rattle.space_laws.proofs.incarnations_tell.Goals as goal

pub returns : goal.returns
returns c = laws.incarnations_tell
