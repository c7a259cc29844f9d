use Rattle.std.specs.Prelude.{List, ℕ, Some}
use Rattle.std.proofs.Common.{subst, sym}
use Rattle.redo_model.specs.Model.{IsRowSize}
use Rattle.script_text.specs.declared.statement.Statement.TheVariants as asked
use Rattle.session_core.specs.declared.session.Doing.TheVariants as told
use Rattle.session_core.specs.Acting.{HasActed}
use Rattle.session_step.specs.Turning.{IsTurnOf}
use Rattle.session_step.proofs.Starting.{row_under_way}
use Rattle.session_step.proofs.rows.update_on.Goals as goal

pub returns-in-Some-clause-acted : goal.returns-in-Some-clause-acted
returns-in-Some-clause-acted g c = λ x name target labels p size t.
    let M = g.D.Disk.meaning in
    let e = c.as_slice-bytes.ensures in
    subst (λ (z : List ℕ). HasActed M x (Some (asked.Update name target z)) c.args.store.now c.update_at.new.store c.update_at.result) e
    (c.update_at.ensures.acted x name target labels p (subst IsRowSize (sym e) size) c.in-Some.is
    (subst (λ (z : List ℕ). IsTurnOf M x (Some (asked.Update name target z)) c.args.who c.args.own labels p (told.OnRow c.args.work.now) c.args.store.now) (sym e) t))

pub returns-in-None-clause-acted : goal.returns-in-None-clause-acted
returns-in-None-clause-acted g c = λ x name target labels p size t.
    c.locate_row.ensures.acted x (asked.Update name target c.args.text.now) t.at (row_under_way g.D.Disk.meaning x (asked.Update name target c.args.text.now) c.args.who c.args.own labels p c.args.work.now c.args.store.now tt t)
