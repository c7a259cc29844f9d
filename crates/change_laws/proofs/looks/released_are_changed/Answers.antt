use Rattle.change_laws.proofs.LookLaw as laws
use Rattle.change_laws.proofs.looks.released_are_changed.Goals as goal

pub returns : goal.returns
returns c = laws.released_are_changed
