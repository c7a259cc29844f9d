use Rattle.row_change.proofs.Listed.{lack_same}
use Rattle.row_change.proofs.lacking.lack_in.Goals as goal

pub returns-in-Ok : goal.returns-in-Ok
returns-in-Ok c = lack_same c.args.q.now.table.now c.of-ended.result.table.now c.args.q.now.txn c.args.page.now c.in-Rows.block c.in-Ok.lack c.in-Rows.is c.of-ended.ensures c.in-Ok.ensures
