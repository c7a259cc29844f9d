use Rattle.txn_block.specs.Types.{LeastBelow}
use Rattle.txn_block.proofs.search.least_committed.Given as goal

abbrev pub invariant-loop-place : goal.invariant-loop-place
invariant-loop-place l = LeastBelow l.entries l.place l.best
