use Rattle.std.proofs.Common.{sym, ◌∙◌}
use Rattle.session_core.proofs.Calls.{acted_as, acted_told, acted_after, acted_looked, looked_stays, stayed_at}
use Rattle.session_core.proofs.RepairEvents.{no_repair_table}
use Rattle.session_core.proofs.MakingTables.{first_turns, begun_named}
use Rattle.session_core.proofs.mending.start_repair.Goals as goal

pub returns-in-Err-clause-acted : goal.returns-in-Err-clause-acted
returns-in-Err-clause-acted g c = λ x at h. acted_looked g.D.Disk.meaning x _ c.args.own c.args.store.now c.find_named.new.store c.in-Err.fault at c.in-Err.ensures.looked (c.in-Err.ensures.sound x.ended at.stands at.unspent)

pub returns-in-Some-clause-acted : goal.returns-in-Some-clause-acted
returns-in-Some-clause-acted g c = λ x at h.
    let M = g.D.Disk.meaning in
    let a = c.args.store.now in
    let b = c.find_named.new.store in
    let stays = looked_stays M x c.args.own a b c.in-Ok.named at c.in-Ok.ensures.looked in
    acted_after M x _ a b c.try_repair.new.store c.try_repair.result stays (c.try_repair.ensures.acted x (stayed_at M x c.args.own a b at stays) h (sym (c.in-Ok.ensures.says x.ended at.stands).obj ∙ c.in-Some.is))

pub returns-in-None-clause-acted : goal.returns-in-None-clause-acted
returns-in-None-clause-acted g c = λ x at h.
    let M = g.D.Disk.meaning in
    let a = c.args.store.now in
    let b = c.find_named.new.store in
    acted_as M x _ a b c.refused.result _ c.refused.ensures
    (acted_told M x _ c.args.own a b c.in-Ok.named _ at c.in-Ok.ensures.looked (first_turns a.shape x _ _ c.args.own h (no_repair_table a.shape x c.args.name.now (begun_named x c.args.name.now _ h (sym (c.in-Ok.ensures.says x.ended at.stands).obj ∙ c.in-None.is))) at.own_is))
