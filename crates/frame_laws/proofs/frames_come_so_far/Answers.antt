use Rattle.frame_laws.proofs.SoFar as laws
use Rattle.frame_laws.proofs.frames_come_so_far.Goals as goal

pub returns : goal.returns
returns c = laws.frames_come_so_far
