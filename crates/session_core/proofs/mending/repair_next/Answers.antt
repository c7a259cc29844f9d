use Rattle.std.proofs.Common.{sym, ◌∙◌}
use Rattle.session_core.specs.RepairEvents.{repair_turned}
use Rattle.session_core.proofs.Calls.{acted_as, acted_told, acted_after, acted_looked, called_look, called_looked, called_unlooked, looked_stays, stayed_at}
use Rattle.session_core.proofs.RepairEvents.{past_turns, next_was, table_was, table_now, repairing_as, next_as}
use Rattle.session_core.proofs.mending.repair_next.Goals as goal

pub returns-in-Ok-true-clause-acted : goal.returns-in-Ok-true-clause-acted
returns-in-Ok-true-clause-acted g c = λ x at r next.
    let M = g.D.Disk.meaning in
    let a = c.args.store.now in
    let b = c.is_released.new.store in
    let w = c.args.work in
    let z = repair_turned c.past_next.result c.args.table c.args.own in
    let h = at.stands.lawful.allowed in
    let says = c.in-Ok-true.ensures.says x.begun x.ended at.stands r.extends r.begins_is (table_was a.shape x c.args.table w h r.extends r.stands) (next_was a.shape x c.args.table w c.args.dba next r.stands) in
    acted_as M x _ a b c.repair_turned.result z c.repair_turned.ensures
    (acted_told M x _ c.args.own a b c.in-Ok-true.field-0 z at c.in-Ok-true.ensures.looked
    (past_turns a.shape x c.args.table c.args.own c.args.begins c.args.dba w c.past_next.result c.past_next.ensures r at.own_is next (sym says ∙ c.in-Ok-true.field-0-test)))

pub returns-in-Ok-true-clause-called : goal.returns-in-Ok-true-clause-called
returns-in-Ok-true-clause-called g c = called_look g.D.Disk.meaning c.args.store.now c.is_released.new.store c.in-Ok-true.field-0 _ c.requires.unspent c.in-Ok-true.ensures.looked

pub returns-in-Ok-false-clause-acted : goal.returns-in-Ok-false-clause-acted
returns-in-Ok-false-clause-acted g c = λ x at r next.
    let M = g.D.Disk.meaning in
    let a = c.args.store.now in
    let b = c.is_released.new.store in
    let w = c.args.work in
    let h = at.stands.lawful.allowed in
    let says = c.in-Ok-false.ensures.says x.begun x.ended at.stands r.extends r.begins_is (table_was a.shape x c.args.table w h r.extends r.stands) (next_was a.shape x c.args.table w c.args.dba next r.stands) in
    let stays = looked_stays M x c.args.own a b c.in-Ok-false.field-0 at c.in-Ok-false.ensures.looked in
    acted_after M x _ a b c.settle_next.new.store c.settle_next.result stays
    (c.settle_next.ensures.acted x c.args.begins (stayed_at M x c.args.own a b at stays) (repairing_as a.shape b.shape x c.args.table c.args.begins w stays.shape r) (next_as a.shape b.shape x w c.args.dba c.in-Ok-false.field-0 stays.shape next says c.in-Ok-false.field-0-test))

pub returns-in-Ok-false-clause-called : goal.returns-in-Ok-false-clause-called
returns-in-Ok-false-clause-called g c = called_looked g.D.Disk.meaning c.args.store.now c.is_released.new.store c.settle_next.new.store c.in-Ok-false.field-0 _ c.requires.unspent c.in-Ok-false.ensures.looked c.settle_next.ensures.called

pub returns-in-Err-clause-acted : goal.returns-in-Err-clause-acted
returns-in-Err-clause-acted g c = λ x at r next.
    let M = g.D.Disk.meaning in
    let a = c.args.store.now in
    acted_looked M x _ c.args.own a c.is_released.new.store c.in-Err.fault at c.in-Err.ensures.looked (c.in-Err.ensures.sound x.ended at.stands (table_now a.shape x c.args.table c.args.work at.stands.lawful.allowed r.extends r.stands) at.unspent)

pub returns-in-Err-clause-called : goal.returns-in-Err-clause-called
returns-in-Err-clause-called g c = called_unlooked g.D.Disk.meaning c.args.store.now c.is_released.new.store c.in-Err.fault c.requires.unspent c.in-Err.ensures.looked
