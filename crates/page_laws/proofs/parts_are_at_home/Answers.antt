use Rattle.page_laws.proofs.FitsLaw as laws
use Rattle.page_laws.proofs.parts_are_at_home.Goals as goal

pub returns : goal.returns
returns c = laws.parts_are_at_home
