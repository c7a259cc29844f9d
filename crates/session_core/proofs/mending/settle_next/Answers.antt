use Rattle.session_core.proofs.RepairEvents.{next_there, settled_acted, unsettled_acted, called_either, called_failed}
use Rattle.session_core.proofs.mending.settle_next.Goals as goal

pub returns-in-Ok-clause-acted : goal.returns-in-Ok-clause-acted
returns-in-Ok-clause-acted g c = λ x begins at r n.
    let M = g.D.Disk.meaning in
    let a = c.args.store.now in
    settled_acted M x c.args.table c.args.own begins c.args.dba c.args.work c.in-Ok.repaired a c.repair_block.new.store c.settled_turned.result at r n (c.in-Ok.ensures.repaired x.ended (next_there M x c.args.table c.args.own begins c.args.dba c.args.work a at r n)) c.settled_turned.ensures.turned c.settled_turned.ensures.cause

pub returns-in-Ok-clause-called : goal.returns-in-Ok-clause-called
returns-in-Ok-clause-called g c = called_either g.D.Disk.meaning c.args.store.now c.repair_block.new.store c.in-Ok.repaired c.settled_turned.result c.settled_turned.ensures.cause c.in-Ok.ensures.called

pub returns-in-Err-clause-acted : goal.returns-in-Err-clause-acted
returns-in-Err-clause-acted g c = λ x begins at r n.
    let M = g.D.Disk.meaning in
    let a = c.args.store.now in
    unsettled_acted M x c.args.table begins c.args.dba c.args.work c.in-Err.fault a c.repair_block.new.store r (c.in-Err.ensures.repaired x.ended (next_there M x c.args.table c.args.own begins c.args.dba c.args.work a at r n))

pub returns-in-Err-clause-called : goal.returns-in-Err-clause-called
returns-in-Err-clause-called g c = called_failed g.D.Disk.meaning c.args.store.now c.repair_block.new.store c.in-Err.fault c.in-Err.ensures.called
