use Rattle.std.specs.Prelude.{Ok, Err}
use Rattle.std.proofs.Common.{ap}
use Rattle.scan_table.specs.Places.{place}
use Rattle.session_core.specs.declared.turned.Acted.{Acted}
use Rattle.session_core.specs.Scanned.{failed, stepped}
use Rattle.session_core.proofs.Places.{answer_at}
use Rattle.session_core.proofs.ScanEvents.{the_ok, begins_as, own_as, opens, own_at, there_at, looked_called, opened_keeps, opened_none, called_as, keeps_as, none_as}
use Rattle.session_core.proofs.scanning.open_named.Goals as goal

pub returns-in-Ok-clause-acted : goal.returns-in-Ok-clause-acted
returns-in-Ok-clause-acted g c = λ x at st t.
    let M = g.D.Disk.meaning in
    let a = c.args.store.now in
    let p = place c.args.who c.open.new.self in
    answer_at M x _ p a c.open.new.store (Ok c.stepped.result) (Ok (stepped c.in-Ok.step c.args.table c.args.own)) (ap (λ (z : Acted). the_ok z) c.stepped.ensures)
    (opens M x c.args.table c.args.own c.args.obj p a c.open.new.store (Ok c.in-Ok.step) at st t c.in-Ok.ensures.looked c.in-Ok.ensures.after (begins_as a.shape x.ended c.args.obj p (Ok c.in-Ok.step) c.same_txn.result c.args.own c.same_txn.ensures (c.in-Ok.ensures.begins x.ended at.stands (there_at M x c.args.table c.args.own c.args.obj a at st t) (own_as x.ended c.same_txn.result c.args.own c.same_txn.ensures (own_at M x c.args.own a at)))))

pub returns-in-Ok-clause-called : goal.returns-in-Ok-clause-called
returns-in-Ok-clause-called g c = called_as g.D.Disk.meaning c.args.store.now c.open.new.store (Ok c.stepped.result) (Ok (stepped c.in-Ok.step c.args.table c.args.own)) (ap (λ (z : Acted). the_ok z) c.stepped.ensures)
    (looked_called g.D.Disk.meaning c.args.table 0 c.args.own c.args.store.now c.open.new.store (Ok c.in-Ok.step) c.requires.unspent c.in-Ok.ensures.looked)

pub returns-in-Ok-clause-kept : goal.returns-in-Ok-clause-kept
returns-in-Ok-clause-kept g c = keeps_as (place c.args.who c.open.new.self) (Ok c.stepped.result) (Ok (stepped c.in-Ok.step c.args.table c.args.own)) (ap (λ (z : Acted). the_ok z) c.stepped.ensures) (opened_keeps (place c.args.who c.open.new.self) c.args.table 0 c.args.own (Ok c.in-Ok.step) c.in-Ok.ensures.after)

pub returns-in-Ok-clause-same : goal.returns-in-Ok-clause-same
returns-in-Ok-clause-same g c = none_as (place c.args.who c.open.new.self) (Ok c.stepped.result) (Ok (stepped c.in-Ok.step c.args.table c.args.own)) (ap (λ (z : Acted). the_ok z) c.stepped.ensures) (opened_none (place c.args.who c.open.new.self) c.args.table 0 c.args.own (Ok c.in-Ok.step) c.in-Ok.ensures.after)

pub returns-in-Err-clause-acted : goal.returns-in-Err-clause-acted
returns-in-Err-clause-acted g c = λ x at st t.
    let M = g.D.Disk.meaning in
    let a = c.args.store.now in
    let p = place c.args.who c.open.new.self in
    answer_at M x _ p a c.open.new.store c.failed.result (failed c.in-Err.fault 0 c.args.own) c.failed.ensures
    (opens M x c.args.table c.args.own c.args.obj p a c.open.new.store (Err c.in-Err.fault) at st t c.in-Err.ensures.looked c.in-Err.ensures.after (begins_as a.shape x.ended c.args.obj p (Err c.in-Err.fault) c.same_txn.result c.args.own c.same_txn.ensures (c.in-Err.ensures.begins x.ended at.stands (there_at M x c.args.table c.args.own c.args.obj a at st t) (own_as x.ended c.same_txn.result c.args.own c.same_txn.ensures (own_at M x c.args.own a at)))))

pub returns-in-Err-clause-called : goal.returns-in-Err-clause-called
returns-in-Err-clause-called g c = called_as g.D.Disk.meaning c.args.store.now c.open.new.store c.failed.result (failed c.in-Err.fault 0 c.args.own) c.failed.ensures
    (looked_called g.D.Disk.meaning c.args.table 0 c.args.own c.args.store.now c.open.new.store (Err c.in-Err.fault) c.requires.unspent c.in-Err.ensures.looked)

pub returns-in-Err-clause-kept : goal.returns-in-Err-clause-kept
returns-in-Err-clause-kept g c = keeps_as (place c.args.who c.open.new.self) c.failed.result (failed c.in-Err.fault 0 c.args.own) c.failed.ensures (opened_keeps (place c.args.who c.open.new.self) c.args.table 0 c.args.own (Err c.in-Err.fault) c.in-Err.ensures.after)

pub returns-in-Err-clause-same : goal.returns-in-Err-clause-same
returns-in-Err-clause-same g c = none_as (place c.args.who c.open.new.self) c.failed.result (failed c.in-Err.fault 0 c.args.own) c.failed.ensures (opened_none (place c.args.who c.open.new.self) c.args.table 0 c.args.own (Err c.in-Err.fault) c.in-Err.ensures.after)
