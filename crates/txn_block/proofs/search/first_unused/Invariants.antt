use Rattle.txn_block.specs.Types.{is_unused, NoneBelow}
use Rattle.txn_block.proofs.search.first_unused.Given as goal

abbrev pub invariant-loop-place : goal.invariant-loop-place
invariant-loop-place l = NoneBelow is_unused l.entries l.place
