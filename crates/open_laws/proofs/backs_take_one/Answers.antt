use Rattle.open_laws.proofs.BacksLaw as laws
use Rattle.open_laws.proofs.backs_take_one.Goals as goal

pub returns : goal.returns
returns c = laws.backs_take_one
