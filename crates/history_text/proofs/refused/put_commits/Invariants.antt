use Rattle.std.proofs.Common.{◌≡◌, ◌++◌, drop}
use Rattle.history_text.specs.Refusals.{numbers_text}
use Rattle.history_text.proofs.refused.put_commits.Given as goal

abbrev pub invariant-loop-commit : goal.invariant-loop-commit
invariant-loop-commit l = l.out.items ++ numbers_text (drop l.commit-index l.commits) ≡ l.fn.out.items ++ numbers_text l.commits
