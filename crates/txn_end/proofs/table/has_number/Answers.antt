use Rattle.txn_end.proofs.Numbers.{number_found, number_next}
use Rattle.txn_end.proofs.table.has_number.Goals as goal

pub returns-then-is_at : goal.returns-then-is_at
returns-then-is_at c = number_found c.args.header.now.extents c.loop-index.index c.args.extent c.is_at.result c.loop-index.invariant c.is_at.ensures c.if-is_at.true

pub loop-index-preserved : goal.loop-index-preserved
loop-index-preserved c = number_next c.args.header.now.extents c.loop-index.index c.args.extent c.is_at.result c.loop-index.invariant c.is_at.ensures c.if-is_at.false
