use Rattle.sort_laws.proofs.SortsLaw as laws
use Rattle.sort_laws.proofs.sorts_are_made.Goals as goal

pub returns : goal.returns
returns c = laws.sorts_are_made
