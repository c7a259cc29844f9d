use Rattle.page_laws.proofs.FitsLaw as laws
use Rattle.page_laws.proofs.steps_fit_in_turn.Goals as goal

pub returns : goal.returns
returns c = laws.steps_fit_in_turn
