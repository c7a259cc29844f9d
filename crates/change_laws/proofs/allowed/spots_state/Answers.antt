use Rattle.change_laws.proofs.SpotLaw as laws
use Rattle.change_laws.proofs.allowed.spots_state.Goals as goal

pub returns : goal.returns
returns c = laws.spots_state
