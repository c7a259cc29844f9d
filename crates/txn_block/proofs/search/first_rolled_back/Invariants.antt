use Rattle.txn_block.specs.Types.{is_rolled_back, NoneBelow}
use Rattle.txn_block.proofs.search.first_rolled_back.Given as goal

abbrev pub invariant-loop-place : goal.invariant-loop-place
invariant-loop-place l = NoneBelow is_rolled_back l.entries l.place
