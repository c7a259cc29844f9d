use Rattle.change_laws.proofs.CauseLaw as laws
use Rattle.change_laws.proofs.causes.rows_stand_once.Goals as goal

pub returns : goal.returns
returns c = laws.rows_stand_once
