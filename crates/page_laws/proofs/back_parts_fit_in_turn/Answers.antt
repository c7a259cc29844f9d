use Rattle.page_laws.proofs.BackLaw as laws
use Rattle.page_laws.proofs.back_parts_fit_in_turn.Goals as goal

pub returns : goal.returns
returns c = laws.back_parts_fit_in_turn
