use Rattle.std.specs.Prelude.{List, ℕ, Some}
use Rattle.std.proofs.Common.{subst, sym, ◌∙◌}
use Rattle.redo_model.specs.Model.{IsRowSize}
use Rattle.script_text.specs.declared.statement.Statement.TheVariants as asked
use Rattle.session_core.specs.Acting.{HasActed}
use Rattle.session_core.specs.Inserts.{IsInserting}
use Rattle.session_step.proofs.Starting.{insert_starts, insert_goes_on}
use Rattle.session_step.proofs.rows.insert.Goals as goal

pub returns-in-Some-clause-acted : goal.returns-in-Some-clause-acted
returns-in-Some-clause-acted g c = λ x label labels p size t.
    let M = g.D.Disk.meaning in
    let name = c.args.table.now in
    let e = c.as_slice-bytes.ensures in
    let going = insert_goes_on M x c.args.who c.args.own labels p c.args.doing.now c.args.store.now name label c.args.text.now c.in-Some.obj (sym c.inserting_in.ensures ∙ c.in-Some.is) t in
    subst (λ (z : List ℕ). HasActed M x (Some (asked.Insert name label z)) c.args.store.now c.go_on_inserting.new.store c.go_on_inserting.result) e
    (c.go_on_inserting.ensures.acted x name label t.at t.by (subst IsRowSize (sym e) size) (subst (λ (z : List ℕ). IsInserting c.args.store.now.shape x name label z c.in-Some.obj) (sym e) going))

pub returns-in-None-clause-acted : goal.returns-in-None-clause-acted
returns-in-None-clause-acted g c = λ x label labels p size t.
    let M = g.D.Disk.meaning in
    let name = c.args.table.now in
    let e = c.as_slice-bytes.ensures in
    let starts = insert_starts M x c.args.who c.args.own labels p c.args.doing.now c.args.store.now name label c.args.text.now (sym c.inserting_in.ensures ∙ c.in-None.is) t in
    subst (λ (z : List ℕ). HasActed M x (Some (asked.Insert name label z)) c.args.store.now c.start_insert.new.store c.start_insert.result) e
    (c.start_insert.ensures.acted x label t.at starts t.by (subst IsRowSize (sym e) size))
