use Rattle.session_core.specs.RepairEvents.{repair_turned}
use Rattle.session_core.proofs.Calls.{acted_as, acted_told, acted_looked, called_look, called_unlooked}
use Rattle.session_core.proofs.MakingTables.{is_table}
use Rattle.session_core.proofs.RepairEvents.{begun_turns}
use Rattle.session_core.proofs.mending.list_named.Goals as goal

pub returns-in-Ok-clause-acted : goal.returns-in-Ok-clause-acted
returns-in-Ok-clause-acted g c = λ x at st t few.
    let M = g.D.Disk.meaning in
    let a = c.args.store.now in
    let z = repair_turned c.begun_work.result c.args.table c.args.own in
    acted_as M x _ a c.list_table.new.store c.repair_turned.result z c.repair_turned.ensures
    (acted_told M x _ c.args.own a c.list_table.new.store c.in-Ok.blocks z at c.in-Ok.ensures.looked
    (begun_turns a.shape x c.args.table c.args.own c.args.obj c.in-Ok.blocks c.begun_work.result c.begun_work.ensures st t few at.own_is (c.in-Ok.ensures.says x.ended at.stands (is_table M x c.args.own a c.args.table c.args.obj at t))))

pub returns-in-Ok-clause-called : goal.returns-in-Ok-clause-called
returns-in-Ok-clause-called g c = called_look g.D.Disk.meaning c.args.store.now c.list_table.new.store c.in-Ok.blocks _ c.requires.unspent c.in-Ok.ensures.looked

pub returns-in-Err-clause-acted : goal.returns-in-Err-clause-acted
returns-in-Err-clause-acted g c = λ x at st t few.
    let M = g.D.Disk.meaning in
    let a = c.args.store.now in
    acted_looked M x _ c.args.own a c.list_table.new.store c.in-Err.fault at c.in-Err.ensures.looked (c.in-Err.ensures.sound x.ended at.stands (is_table M x c.args.own a c.args.table c.args.obj at t) at.unspent)

pub returns-in-Err-clause-called : goal.returns-in-Err-clause-called
returns-in-Err-clause-called g c = called_unlooked g.D.Disk.meaning c.args.store.now c.list_table.new.store c.in-Err.fault c.requires.unspent c.in-Err.ensures.looked
