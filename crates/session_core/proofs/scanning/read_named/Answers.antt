use Rattle.std.specs.Prelude.{Ok, Err}
use Rattle.std.proofs.Common.{ap}
use Rattle.scan_table.specs.Places.{place}
use Rattle.session_core.specs.declared.turned.Acted.{Acted}
use Rattle.session_core.specs.Scanned.{failed, stepped}
use Rattle.session_core.proofs.Places.{answer_at}
use Rattle.session_core.proofs.ScanEvents.{the_ok, counted_at, goes_on, looked_called, next_keeps, next_same, called_as, keeps_as, same_as}
use Rattle.session_core.proofs.scanning.read_named.Goals as goal

pub returns-in-Ok-clause-acted : goal.returns-in-Ok-clause-acted
returns-in-Ok-clause-acted g c = λ x at ready w sh.
    let M = g.D.Disk.meaning in
    let a = c.args.store.now in
    let q = place c.args.who c.args.scans.now in
    let p = place c.args.who c.read_next.new.self in
    answer_at M x _ p a c.read_next.new.store (Ok c.stepped.result) (Ok (stepped c.in-Ok.step c.args.table c.args.own)) (ap (λ (z : Acted). the_ok z) c.stepped.ensures)
    (counted_at M x c.args.table c.args.own q p a c.read_next.new.store (Ok c.in-Ok.step) c.blocks_read-read.result c.blocks_read-read.ensures
    (goes_on M x c.args.table c.args.own q p a c.read_next.new.store (Ok c.in-Ok.step) at ready w sh c.requires.open c.in-Ok.ensures.looked c.in-Ok.ensures.settled c.in-Ok.ensures.steps))

pub returns-in-Ok-clause-called : goal.returns-in-Ok-clause-called
returns-in-Ok-clause-called g c = called_as g.D.Disk.meaning c.args.store.now c.read_next.new.store (Ok c.stepped.result) (Ok (stepped c.in-Ok.step c.args.table c.args.own)) (ap (λ (z : Acted). the_ok z) c.stepped.ensures)
    (looked_called g.D.Disk.meaning c.args.table c.blocks_read-read.result c.args.own c.args.store.now c.read_next.new.store (Ok c.in-Ok.step) c.requires.unspent c.in-Ok.ensures.looked)

pub returns-in-Ok-clause-kept : goal.returns-in-Ok-clause-kept
returns-in-Ok-clause-kept g c =
    let q = place c.args.who c.args.scans.now in
    let p = place c.args.who c.read_next.new.self in
    keeps_as p (Ok c.stepped.result) (Ok (stepped c.in-Ok.step c.args.table c.args.own)) (ap (λ (z : Acted). the_ok z) c.stepped.ensures) (next_keeps q p c.args.table c.blocks_read-read.result c.args.own (Ok c.in-Ok.step) c.requires.open c.in-Ok.ensures.settled)

pub returns-in-Ok-clause-same : goal.returns-in-Ok-clause-same
returns-in-Ok-clause-same g c =
    let q = place c.args.who c.args.scans.now in
    let p = place c.args.who c.read_next.new.self in
    same_as q p (Ok c.stepped.result) (Ok (stepped c.in-Ok.step c.args.table c.args.own)) (ap (λ (z : Acted). the_ok z) c.stepped.ensures) (next_same q p c.args.table c.blocks_read-read.result c.args.own (Ok c.in-Ok.step) c.requires.open c.in-Ok.ensures.settled)

pub returns-in-Err-clause-acted : goal.returns-in-Err-clause-acted
returns-in-Err-clause-acted g c = λ x at ready w sh.
    let M = g.D.Disk.meaning in
    let a = c.args.store.now in
    let q = place c.args.who c.args.scans.now in
    let p = place c.args.who c.read_next.new.self in
    answer_at M x _ p a c.read_next.new.store c.failed.result (failed c.in-Err.fault c.blocks_read-read.result c.args.own) c.failed.ensures
    (counted_at M x c.args.table c.args.own q p a c.read_next.new.store (Err c.in-Err.fault) c.blocks_read-read.result c.blocks_read-read.ensures
    (goes_on M x c.args.table c.args.own q p a c.read_next.new.store (Err c.in-Err.fault) at ready w sh c.requires.open c.in-Err.ensures.looked c.in-Err.ensures.settled c.in-Err.ensures.steps))

pub returns-in-Err-clause-called : goal.returns-in-Err-clause-called
returns-in-Err-clause-called g c = called_as g.D.Disk.meaning c.args.store.now c.read_next.new.store c.failed.result (failed c.in-Err.fault c.blocks_read-read.result c.args.own) c.failed.ensures
    (looked_called g.D.Disk.meaning c.args.table c.blocks_read-read.result c.args.own c.args.store.now c.read_next.new.store (Err c.in-Err.fault) c.requires.unspent c.in-Err.ensures.looked)

pub returns-in-Err-clause-kept : goal.returns-in-Err-clause-kept
returns-in-Err-clause-kept g c =
    let q = place c.args.who c.args.scans.now in
    let p = place c.args.who c.read_next.new.self in
    keeps_as p c.failed.result (failed c.in-Err.fault c.blocks_read-read.result c.args.own) c.failed.ensures (next_keeps q p c.args.table c.blocks_read-read.result c.args.own (Err c.in-Err.fault) c.requires.open c.in-Err.ensures.settled)

pub returns-in-Err-clause-same : goal.returns-in-Err-clause-same
returns-in-Err-clause-same g c =
    let q = place c.args.who c.args.scans.now in
    let p = place c.args.who c.read_next.new.self in
    same_as q p c.failed.result (failed c.in-Err.fault c.blocks_read-read.result c.args.own) c.failed.ensures (next_same q p c.args.table c.blocks_read-read.result c.args.own (Err c.in-Err.fault) c.requires.open c.in-Err.ensures.settled)
