use Rattle.std.proofs.Common.{◌≡◌, ◌++◌, take, flat_map}
use Rattle.redo_record.specs.Types.{ended_transaction}
use Rattle.redo_record.proofs.writing.transaction.each_ended.Given as goal

abbrev pub invariant-loop-txn : goal.invariant-loop-txn
invariant-loop-txn l = l.out.items ≡ l.fn.out.items ++ flat_map ended_transaction (take l.txn-index l.ended)
