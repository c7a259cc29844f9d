use Rattle.frame_laws.proofs.SoFar as laws
use Rattle.frame_laws.proofs.pages_read_back.Goals as goal

pub returns : goal.returns
returns c = laws.pages_read_back
