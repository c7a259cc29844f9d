use Rattle.checkpoint_laws.proofs.Boundaries.{points_are_boundaries}
use Rattle.checkpoint_laws.proofs.points_are_boundaries.Goals as goal

pub returns : goal.returns
returns c = points_are_boundaries
