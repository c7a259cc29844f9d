use Rattle.std.proofs.Common.{sym, ◌∙◌}
use Rattle.session_core.proofs.Calls.{acted_as, acted_told, acted_after, acted_looked, looked_stays, stayed_at}
use Rattle.session_core.proofs.Fixings.{fix_untold}
use Rattle.session_core.proofs.MakingTables.{first_turns, begun_named}
use Rattle.session_core.proofs.fixing.fix.Goals as goal

pub returns-in-Err-clause-acted : goal.returns-in-Err-clause-acted
returns-in-Err-clause-acted g c = λ x at h. acted_looked g.D.Disk.meaning x _ c.args.own c.args.store.now c.find_named.new.store c.in-Err.fault at c.in-Err.ensures.looked (c.in-Err.ensures.sound x.ended at.stands at.unspent)

pub returns-in-Some-clause-acted : goal.returns-in-Some-clause-acted
returns-in-Some-clause-acted g c = λ x at h.
    let M = g.D.Disk.meaning in
    let a = c.args.store.now in
    let b = c.find_named.new.store in
    let stays = looked_stays M x c.args.own a b c.in-Ok.named at c.in-Ok.ensures.looked in
    acted_after M x _ a b c.try_fix.new.store c.try_fix.result stays (c.try_fix.ensures.acted x c.args.table.now (stayed_at M x c.args.own a b at stays) h (sym (c.in-Ok.ensures.says x.ended at.stands).obj ∙ c.in-Some.is))

pub returns-in-None-clause-acted : goal.returns-in-None-clause-acted
returns-in-None-clause-acted g c = λ x at h.
    let M = g.D.Disk.meaning in
    let a = c.args.store.now in
    let b = c.find_named.new.store in
    acted_as M x _ a b c.refused.result _ c.refused.ensures
    (acted_told M x _ c.args.own a b c.in-Ok.named _ at c.in-Ok.ensures.looked (first_turns a.shape x _ _ c.args.own h (fix_untold a.shape x c.args.table.now c.args.block c.args.value (begun_named x c.args.table.now _ h (sym (c.in-Ok.ensures.says x.ended at.stands).obj ∙ c.in-None.is))) at.own_is))
