use Rattle.row_change.proofs.Fitted.{fitting_same}
use Rattle.row_change.proofs.fitting.fitting_in.Goals as goal

pub returns-in-Rows : goal.returns-in-Rows
returns-in-Rows c = fitting_same c.args.q.now.table.now c.of-ended.result.table.now c.args.q.now.own.now c.args.q.now.slot c.args.q.now.len c.args.page.now c.in-Rows.block c.fitting_at.result c.in-Rows.is c.of-ended.ensures c.fitting_at.ensures
