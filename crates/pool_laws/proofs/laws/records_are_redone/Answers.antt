use Rattle.pool_laws.proofs.Redoing.{redo}
use Rattle.pool_laws.proofs.laws.records_are_redone.Goals as goal

pub returns : goal.returns
returns c = redo
