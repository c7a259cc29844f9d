use Rattle.mark_laws.proofs.Computing as laws
use Rattle.mark_laws.proofs.searches_compute.Goals as goal

pub returns : goal.returns
returns c = laws.searches_right
