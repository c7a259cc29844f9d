use Rattle.session_core.specs.Counted.{told_over}
use Rattle.session_core.proofs.Calls.{acted_as, acted_told, acted_looked, called_look, called_unlooked}
use Rattle.session_core.proofs.ScanEvents.{there_at}
use Rattle.session_core.proofs.Usages.{usage_turns}
use Rattle.session_core.proofs.counting.count_named.Goals as goal

pub returns-in-Ok-clause-acted : goal.returns-in-Ok-clause-acted
returns-in-Ok-clause-acted g c = λ x at st t.
    let M = g.D.Disk.meaning in
    let a = c.args.store.now in
    acted_as M x _ a c.usage.new.store c.over.result (told_over c.args.table c.args.own c.in-Ok.usage) c.over.ensures
    (acted_told M x _ c.args.own a c.usage.new.store c.in-Ok.usage (told_over c.args.table c.args.own c.in-Ok.usage) at c.in-Ok.ensures.looked
    (usage_turns a.shape x c.args.table c.args.obj c.args.own c.in-Ok.usage at.stands.lawful.allowed st t at.own_is (c.in-Ok.ensures.says x.ended at.stands (there_at M x c.args.table c.args.own c.args.obj a at st t))))

pub returns-in-Ok-clause-called : goal.returns-in-Ok-clause-called
returns-in-Ok-clause-called g c = called_look g.D.Disk.meaning c.args.store.now c.usage.new.store c.in-Ok.usage _ c.requires.unspent c.in-Ok.ensures.looked

pub returns-in-Err-clause-acted : goal.returns-in-Err-clause-acted
returns-in-Err-clause-acted g c = λ x at st t.
    acted_looked g.D.Disk.meaning x _ c.args.own c.args.store.now c.usage.new.store c.in-Err.fault at c.in-Err.ensures.looked (c.in-Err.ensures.sound x.ended at.stands (there_at g.D.Disk.meaning x c.args.table c.args.own c.args.obj c.args.store.now at st t) at.unspent)

pub returns-in-Err-clause-called : goal.returns-in-Err-clause-called
returns-in-Err-clause-called g c = called_unlooked g.D.Disk.meaning c.args.store.now c.usage.new.store c.in-Err.fault c.requires.unspent c.in-Err.ensures.looked
