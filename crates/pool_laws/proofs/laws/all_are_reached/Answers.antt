use Rattle.pool_laws.proofs.Redoing.{all_reached}
use Rattle.pool_laws.proofs.laws.all_are_reached.Goals as goal

pub returns : goal.returns
returns c = all_reached
