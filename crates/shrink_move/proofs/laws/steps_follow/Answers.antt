use Rattle.shrink_move.proofs.FollowLaw as laws
use Rattle.shrink_move.proofs.laws.steps_follow.Goals as goal

pub returns : goal.returns
returns c = laws.steps_follow
