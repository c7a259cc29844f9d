use Rattle.script_text.specs.declared.statement.Statement.TheVariants as asked
use Rattle.session_step.proofs.Starting.{row_under_way}
use Rattle.session_step.proofs.rows.delete_on.Goals as goal

pub returns-in-Some-clause-acted : goal.returns-in-Some-clause-acted
returns-in-Some-clause-acted g c = λ x name target labels p t.
    c.delete_row.ensures.acted x name target t.at t.by (row_under_way g.D.Disk.meaning x (asked.Delete name target) c.args.who c.args.own labels p c.args.work.now c.args.store.now tt t) c.in-Some.is

pub returns-in-None-clause-acted : goal.returns-in-None-clause-acted
returns-in-None-clause-acted g c = λ x name target labels p t.
    c.locate_row.ensures.acted x (asked.Delete name target) t.at (row_under_way g.D.Disk.meaning x (asked.Delete name target) c.args.who c.args.own labels p c.args.work.now c.args.store.now tt t)
