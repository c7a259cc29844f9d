use Rattle.store_core.specs.declared.lowered.Lowered.{Lowered}
use Rattle.session_core.proofs.Calls.{called_err, called_ok}
use Rattle.session_core.proofs.Lowerings.{ended_acted, table_on, unended_acted}
use Rattle.session_core.proofs.shrunk.lower_named.Goals as goal

pub returns-in-Ok-clause-acted : goal.returns-in-Ok-clause-acted
returns-in-Ok-clause-acted g c = λ x at r.
    let M = g.D.Disk.meaning in
    let a = c.args.store.now in
    let t = table_on M x c.args.table c.args.own c.args.work a at r in
    ended_acted M x c.args.table c.args.own c.args.work c.in-Ok.lowered c.told_shrunk.result c.args.scans.now c.released.new.self a c.lower.new.store c.told_shrunk.ensures at r c.in-Ok.ensures.tried.loan (c.in-Ok.ensures.adds x.ended at.stands t) (c.in-Ok.ensures.answers x.ended at.stands t) c.released.ensures

pub returns-in-Ok-clause-called : goal.returns-in-Ok-clause-called
returns-in-Ok-clause-called g c = called_ok {A = Lowered} g.D.Disk.meaning c.args.store.now c.lower.new.store c.in-Ok.lowered _ c.requires.unspent c.in-Ok.ensures.tried.loan c.in-Ok.ensures.tried.cause

pub returns-in-Err-clause-acted : goal.returns-in-Err-clause-acted
returns-in-Err-clause-acted g c = λ x at r.
    let M = g.D.Disk.meaning in
    let a = c.args.store.now in
    let t = table_on M x c.args.table c.args.own c.args.work a at r in
    unended_acted M x c.args.table c.args.own c.args.work c.in-Err.fault c.args.scans.now a c.lower.new.store at c.in-Err.ensures.tried.loan (c.in-Err.ensures.adds x.ended at.stands t)

pub returns-in-Err-clause-called : goal.returns-in-Err-clause-called
returns-in-Err-clause-called g c = called_err {A = Lowered} g.D.Disk.meaning c.args.store.now c.lower.new.store c.in-Err.fault c.requires.unspent c.in-Err.ensures.tried.loan c.in-Err.ensures.tried.cause
