use Rattle.std.specs.Prelude.{Some, List, ℕ}
use Rattle.std.proofs.Common.{sym, subst}
use Rattle.script_text.specs.declared.statement.Statement.TheVariants as asked
use Rattle.session_model.specs.Worlds.{IsReady}
use Rattle.scan_table.specs.Places.{place}
use Rattle.session_core.specs.declared.session.Doing.TheVariants as told
use Rattle.session_core.specs.Scanned.{HasActedAt, doing_at}
use Rattle.session_core.proofs.Calls.{called_memory}
use Rattle.session_core.proofs.Places.{memory_at}
use Rattle.session_core.proofs.scanning.go_on_scanning.Goals as goal

pub returns-in-Ok-clause-acted : goal.returns-in-Ok-clause-acted
returns-in-Ok-clause-acted g c = λ x at ready w sh.
    let e = c.in-Ok.ensures in
    subst (λ (z : List ℕ). HasActedAt g.D.Disk.meaning x (Some (asked.Scan z)) (place c.args.who c.read_named.new.scans) c.args.store.now c.read_named.new.store c.read_named.result) e
    (c.read_named.ensures.acted x at (subst (λ (z : List ℕ). IsReady c.args.store.now.shape x (Some (asked.Scan z)) (doing_at (place c.args.who c.args.scans.now) told.Scanning)) (sym e) ready) w sh)

pub returns-in-Err-clause-acted : goal.returns-in-Err-clause-acted
returns-in-Err-clause-acted g c = λ x at ready w sh. memory_at g.D.Disk.meaning x _ c.args.own (place c.args.who c.args.scans.now) c.args.store.now at sh

pub returns-in-Err-clause-called : goal.returns-in-Err-clause-called
returns-in-Err-clause-called g c = called_memory g.D.Disk.meaning c.args.store.now c.requires.unspent
