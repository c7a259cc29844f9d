use Rattle.frame_laws.proofs.SoFar as laws
use Rattle.frame_laws.proofs.pages_come_so_far.Goals as goal

pub returns : goal.returns
returns c = laws.pages_come_so_far
