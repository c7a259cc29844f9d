use Rattle.change_laws.proofs.CauseLaw as laws
use Rattle.change_laws.proofs.causes.changes_need.Goals as goal

pub returns : goal.returns
returns c = laws.changes_need
