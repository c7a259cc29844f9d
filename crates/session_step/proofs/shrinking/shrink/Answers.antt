use Rattle.std.specs.Prelude.{Some}
use Rattle.std.proofs.Common.{sym, ◌∙◌}
use Rattle.script_text.specs.declared.statement.Statement.TheVariants as asked
use Rattle.scan_table.specs.Places.{place}
use Rattle.session_step.proofs.ShrinkParts.{shrink_ends, shrink_goes_on, shrink_starts, shrink_waiting, turned_last}
use Rattle.session_step.proofs.Turns.{turned_marking}
use Rattle.session_step.proofs.shrinking.shrink.Goals as goal

pub returns-in-First-clause-turned : goal.returns-in-First-clause-turned
returns-in-First-clause-turned g c = λ x who labels knows t.
    let M = g.D.Disk.meaning in
    let scans = c.args.scans.now in
    let p = place who scans in
    let a = c.args.store.now in
    let name = c.args.table.now in
    let compact = c.args.compact in
    let first = sym c.part_of.ensures ∙ c.in-First.is in
    turned_marking M x (Some (asked.Shrink name compact)) who c.args.own labels scans scans c.args.doing a c.start_shrink.new.store c.start_shrink.result tt tt t
    (c.start_shrink.ensures.acted x compact scans t.at (shrink_starts M x who c.args.own labels p c.args.doing a name compact first t) (knows (shrink_waiting M x who c.args.own labels p c.args.doing a name compact first t)))

pub returns-in-Step-clause-turned : goal.returns-in-Step-clause-turned
returns-in-Step-clause-turned g c = λ x who labels knows t.
    let M = g.D.Disk.meaning in
    let scans = c.args.scans.now in
    let a = c.args.store.now in
    let name = c.args.table.now in
    let compact = c.args.compact in
    turned_marking M x (Some (asked.Shrink name compact)) who c.args.own labels scans scans c.args.doing a c.go_on_shrinking.new.store c.go_on_shrinking.result tt tt t
    (c.go_on_shrinking.ensures.acted x scans t.at (shrink_goes_on M x who c.args.own labels (place who scans) c.args.doing a name compact c.in-Step.work (sym c.part_of.ensures ∙ c.in-Step.is) t))

pub returns-in-Last-clause-turned : goal.returns-in-Last-clause-turned
returns-in-Last-clause-turned g c = λ x who labels knows t.
    let M = g.D.Disk.meaning in
    let scans = c.args.scans.now in
    let a = c.args.store.now in
    let name = c.args.table.now in
    let e = shrink_ends M x who c.args.own labels (place who scans) c.args.doing a name c.args.compact c.in-Last.work (sym c.part_of.ensures ∙ c.in-Last.is) t in
    turned_last M x name c.args.compact who c.args.own labels scans c.end_shrink.new.scans c.args.doing a c.end_shrink.new.store c.end_shrink.result e.0 t (c.end_shrink.ensures.acted x t.at e.1)
