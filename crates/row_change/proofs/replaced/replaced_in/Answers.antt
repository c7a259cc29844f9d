use Rattle.row_change.proofs.Written.{replaced_same}
use Rattle.row_change.proofs.replaced.replaced_in.Goals as goal

pub returns-in-Ok : goal.returns-in-Ok
returns-in-Ok c = replaced_same c.args.q.now.table.now c.of-ended.result.table.now c.args.q.now.txn c.args.q.now.len c.slot_or-slot.result c.args.q.now.slot c.args.page.now c.in-Rows.block c.replaced_at.result c.in-Rows.is c.of-ended.ensures c.slot_or-slot.ensures c.replaced_at.ensures
