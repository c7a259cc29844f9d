use Rattle.std.proofs.Common.{◌≡◌, ◌++◌, drop}
use Rattle.history_text.specs.Refusals.{numbers_text}
use Rattle.history_text.proofs.refused.put_txns.Given as goal

abbrev pub invariant-loop-txn : goal.invariant-loop-txn
invariant-loop-txn l = l.out.items ++ numbers_text (drop l.txn-index l.txns) ≡ l.fn.out.items ++ numbers_text l.txns
