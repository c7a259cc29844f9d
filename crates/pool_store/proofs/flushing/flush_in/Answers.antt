use Rattle.std.proofs.Common.{[]}
use Rattle.pool_store.proofs.flushing.flush_in.Goals as goal

pub returns-in-Ok-clause-list : goal.returns-in-Ok-clause-list
returns-in-Ok-clause-list g c = λ groups R h. c.in-Ok.ensures.list groups [] R h
