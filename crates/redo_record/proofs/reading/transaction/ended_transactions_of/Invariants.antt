use Rattle.redo_record.specs.Types.{ended_transaction_at}
use Rattle.redo_record.proofs.Loop.{Going}
use Rattle.redo_record.proofs.reading.transaction.ended_transactions_of.Given as goal

abbrev pub invariant-loop : goal.invariant-loop
invariant-loop l = Going ended_transaction_at l.count l.counter l.ended.items l.input l.fn.input
