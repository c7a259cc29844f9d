use Rattle.std.specs.Prelude.{◌≡◌, Some, List, ℕ}
use Rattle.std.proofs.Common.{sym, subst}
use Rattle.redo_model.specs.Model.{table_named}
use Rattle.script_text.specs.declared.statement.Statement.TheVariants as asked
use Rattle.scan_table.specs.Places.{place}
use Rattle.session_core.specs.Scanned.{HasActedAt}
use Rattle.session_core.proofs.Calls.{called_memory}
use Rattle.session_core.proofs.Places.{memory_at, closed}
use Rattle.session_core.proofs.scanning.open_scan.Goals as goal

pub returns-in-Ok-clause-acted : goal.returns-in-Ok-clause-acted
returns-in-Ok-clause-acted g c = λ x at st t.
    let M = g.D.Disk.meaning in
    let n = c.in-Ok.table in
    let e = c.in-Ok.ensures in
    subst (λ (z : List ℕ). HasActedAt M x (Some (asked.Scan z)) (place c.args.who c.open_named.new.scans) c.args.store.now c.open_named.new.store c.open_named.result) e
    (c.open_named.ensures.acted x at st (subst (λ (z : List ℕ). table_named x.begun z ≡ Some c.args.obj) (sym e) t))

pub returns-in-Err-clause-acted : goal.returns-in-Err-clause-acted
returns-in-Err-clause-acted g c = λ x at st t. memory_at g.D.Disk.meaning x _ c.args.own (place c.args.who c.args.scans.now) c.args.store.now at (closed c.args.store.now.shape (place c.args.who c.args.scans.now) c.requires.closed)

pub returns-in-Err-clause-called : goal.returns-in-Err-clause-called
returns-in-Err-clause-called g c = called_memory g.D.Disk.meaning c.args.store.now c.requires.unspent
