use Rattle.page_laws.proofs.PartsLaw as laws
use Rattle.page_laws.proofs.parts_fit_in_turn.Goals as goal

pub returns : goal.returns
returns c = laws.parts_fit_in_turn
