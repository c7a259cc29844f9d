use Rattle.redo_record.specs.Types.{ended_transaction_at}
use Rattle.redo_record.proofs.Loop.{goes_on}
use Rattle.redo_record.proofs.reading.transaction.ended_transactions_of.Goals as goal

pub loop-preserved : goal.loop-preserved
loop-preserved c = goes_on ended_transaction_at c.args.count c.loop.counter c.loop.ended.items c.push.new.self.items c.loop.input c.ended_transaction.new.input c.args.input.now c.in_ok-ended_transaction.field-0 c.loop-test.true c.in_ok-ended_transaction.ensures c.in_ok-push.ensures.items c.loop.invariant
