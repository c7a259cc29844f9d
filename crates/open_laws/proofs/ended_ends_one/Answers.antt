use Rattle.open_laws.proofs.BacksLaw as laws
use Rattle.open_laws.proofs.ended_ends_one.Goals as goal

pub returns : goal.returns
returns c = laws.ended_ends_one
