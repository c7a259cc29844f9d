use Rattle.script_text.specs.declared.statement.Statement.TheVariants as asked
use Rattle.session_step.proofs.Starting.{row_under_way}
use Rattle.session_step.proofs.rows.update_at.Goals as goal

pub returns-clause-acted : goal.returns-clause-acted
returns-clause-acted g c = λ x name target labels p size e t.
    c.update_row-acted.ensures.acted x name target t.at t.by size (row_under_way g.D.Disk.meaning x (asked.Update name target c.args.bytes.now) c.args.who c.args.own labels p c.args.work.now c.args.store.now tt t) e t.located
