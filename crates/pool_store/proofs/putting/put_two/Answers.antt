use Rattle.std.proofs.Common.{[]}
use Rattle.pool_store.proofs.putting.put_two.Goals as goal

pub returns-clause-list : goal.returns-clause-list
returns-clause-list c = λ groups R h a b. c.in_ok-lsn.ensures.added groups [] R h a b
