use Rattle.std.specs.Prelude.{Some}
use Rattle.std.proofs.Common.{sym, ◌∙◌}
use Rattle.script_text.specs.declared.statement.Statement.TheVariants as asked
use Rattle.scan_table.specs.Places.{place}
use Rattle.session_step.proofs.Starting.{closed_so, scan_goes_on, scan_starts, scan_whole}
use Rattle.session_step.proofs.Turns.{turned_scan}
use Rattle.session_step.proofs.acting.scan.Goals as goal

pub returns-then-is_open-clause-turned : goal.returns-then-is_open-clause-turned
returns-then-is_open-clause-turned g c = λ x labels d t.
    let M = g.D.Disk.meaning in
    let name = c.args.table.now in
    let p = place c.args.who c.args.scans.now in
    let some = sym c.is_open.ensures ∙ c.if-is_open.true in
    turned_scan M x (Some (asked.Scan name)) c.args.who c.args.scans.now c.go_on_scanning.new.scans c.args.store.now c.go_on_scanning.new.store c.go_on_scanning.result tt tt
    (c.go_on_scanning.ensures.acted x t.at (scan_goes_on M x c.args.who c.args.own labels p d c.args.store.now name some t) (scan_whole M x c.args.who c.args.own labels p d c.args.store.now name some t) t.shaped)
    c.go_on_scanning.ensures.kept c.go_on_scanning.ensures.others

pub start_scan-requires-clause-closed : goal.start_scan-requires-clause-closed
start_scan-requires-clause-closed g c = closed_so (place c.args.who c.args.scans.now) (sym c.is_open.ensures ∙ c.if-is_open.false)

pub go_on_scanning-requires-clause-open : goal.go_on_scanning-requires-clause-open
go_on_scanning-requires-clause-open g c = sym c.is_open.ensures ∙ c.if-is_open.true

pub returns-clause-turned : goal.returns-clause-turned
returns-clause-turned g c = λ x labels d t.
    let M = g.D.Disk.meaning in
    let name = c.args.table.now in
    let p = place c.args.who c.args.scans.now in
    let none = closed_so p (sym c.is_open.ensures ∙ c.if-is_open.false) in
    turned_scan M x (Some (asked.Scan name)) c.args.who c.args.scans.now c.start_scan.new.scans c.args.store.now c.start_scan.new.store c.start_scan.result tt tt
    (c.start_scan.ensures.acted x t.at (scan_starts M x c.args.who c.args.own labels p d c.args.store.now name none t))
    c.start_scan.ensures.kept c.start_scan.ensures.others
