use Rattle.back_laws.proofs.BackHomes as laws
use Rattle.back_laws.proofs.steps_at_home.Goals as goal

pub returns : goal.returns
returns c = laws.steps_at_home
