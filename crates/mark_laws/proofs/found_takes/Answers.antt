use Rattle.mark_laws.proofs.SearchesLaw as laws
use Rattle.mark_laws.proofs.found_takes.Goals as goal

pub returns : goal.returns
returns c = laws.found_takes
