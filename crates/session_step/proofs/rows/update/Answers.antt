use Rattle.std.proofs.Common.{sym, ◌∙◌, refl}
use Rattle.script_text.specs.declared.statement.Statement.TheVariants as asked
use Rattle.session_step.proofs.Starting.{turn_on, row_starts, row_meant}
use Rattle.session_step.proofs.rows.update.Goals as goal

pub returns-in-Some-clause-acted : goal.returns-in-Some-clause-acted
returns-in-Some-clause-acted g c = λ x labels p size e t.
    let name = c.args.table.now in
    let target = c.args.target.now in
    c.update_on.ensures.acted x name target labels p size
    (turn_on g.D.Disk.meaning x c.args.who c.args.own labels p c.args.doing.now c.args.store.now (asked.Update name target c.args.text.now) c.in-Some.work (sym c.work_in.ensures ∙ c.in-Some.is) t)

pub returns-in-None-clause-acted : goal.returns-in-None-clause-acted
returns-in-None-clause-acted g c = λ x labels p size e t.
    let M = g.D.Disk.meaning in
    let name = c.args.table.now in
    let target = c.args.target.now in
    let st = asked.Update name target c.args.text.now in
    let none = sym c.work_in.ensures ∙ c.in-None.is in
    c.start_on_row.ensures.acted x st t.at (row_starts M x c.args.who c.args.own labels p c.args.doing.now c.args.store.now st tt none t)
    (record { kind = tt; named = refl; targeted = refl; row = row_meant M x c.args.who c.args.own labels p c.args.doing.now c.args.store.now st target tt none t ∙ sym e })
