use Rattle.std.proofs.Common.{sym, ◌∙◌, subst, Option, ℕ}
use Rattle.session_core.specs.Starting.{IsBusyBy}
use Rattle.session_core.proofs.Calls.{acted_as, acted_told, acted_after, acted_looked, looked_stays, stayed_at}
use Rattle.session_core.proofs.Checks.{movement_untold}
use Rattle.session_core.proofs.MakingTables.{first_turns, begun_named}
use Rattle.session_core.proofs.tables.set_movement.Goals as goal

pub returns-in-Err-clause-acted : goal.returns-in-Err-clause-acted
returns-in-Err-clause-acted g c = λ x at h busy. acted_looked g.D.Disk.meaning x _ c.args.own c.args.store.now c.find_named.new.store c.in-Err.fault at c.in-Err.ensures.looked (c.in-Err.ensures.sound x.ended at.stands at.unspent)

pub returns-in-Some-clause-acted : goal.returns-in-Some-clause-acted
returns-in-Some-clause-acted g c = λ x at h busy.
    let M = g.D.Disk.meaning in
    let a = c.args.store.now in
    let b = c.find_named.new.store in
    let stays = looked_stays M x c.args.own a b c.in-Ok.named at c.in-Ok.ensures.looked in
    let there = sym (c.in-Ok.ensures.says x.ended at.stands).obj ∙ c.in-Some.is in
    let told = subst (λ (v : Option ℕ). IsBusyBy x c.args.table.now v) (sym c.shrinker_of.ensures) (busy c.args.table.now c.in-Some.obj there) in
    acted_after M x _ a b c.try_movement.new.store c.try_movement.result stays (c.try_movement.ensures.acted x (stayed_at M x c.args.own a b at stays) h told there)

pub returns-in-None-clause-acted : goal.returns-in-None-clause-acted
returns-in-None-clause-acted g c = λ x at h busy.
    let M = g.D.Disk.meaning in
    let a = c.args.store.now in
    let b = c.find_named.new.store in
    acted_as M x _ a b c.refused.result _ c.refused.ensures
    (acted_told M x _ c.args.own a b c.in-Ok.named _ at c.in-Ok.ensures.looked (first_turns a.shape x _ _ c.args.own h (movement_untold a.shape x c.args.table.now c.args.on (begun_named x c.args.table.now _ h (sym (c.in-Ok.ensures.says x.ended at.stands).obj ∙ c.in-None.is))) at.own_is))
