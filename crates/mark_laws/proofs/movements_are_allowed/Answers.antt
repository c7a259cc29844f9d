use Rattle.mark_laws.proofs.MovesLaw as laws
use Rattle.mark_laws.proofs.movements_are_allowed.Goals as goal

pub returns : goal.returns
returns c = laws.movements_are_allowed
