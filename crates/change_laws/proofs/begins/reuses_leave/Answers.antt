use Rattle.change_laws.proofs.BegunLaw as laws
use Rattle.change_laws.proofs.begins.reuses_leave.Goals as goal

pub returns : goal.returns
returns c = laws.reuses_leave
