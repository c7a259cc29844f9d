use Rattle.pool_store.proofs.Counting.{Counted}
use Rattle.pool_store.proofs.opening.count_commits.Given as goal

abbrev pub invariant-loop-i : goal.invariant-loop-i
invariant-loop-i l = Counted l.records l._i l.commits
