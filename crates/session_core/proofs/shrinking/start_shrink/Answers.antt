use Rattle.std.proofs.Common.{sym, ◌∙◌, ap, subst, Option, ℕ}
use Rattle.std.specs.Prelude.{Ok}
use Rattle.session_core.specs.declared.turned.Acted.{Acted}
use Rattle.session_core.specs.Starting.{IsBusyBy}
use Rattle.session_core.proofs.Calls.{acted_told, acted_after, acted_looked, looked_stays, stayed_at}
use Rattle.session_core.proofs.MakingTables.{first_turns, begun_named}
use Rattle.session_core.proofs.ShrinkTests.{no_shrink_table}
use Rattle.session_core.proofs.Marking.{unmarked}
use Rattle.session_core.proofs.Sparing.{marking_as}
use Rattle.session_core.proofs.shrinking.start_shrink.Goals as goal

pub returns-in-Err-clause-acted : goal.returns-in-Err-clause-acted
returns-in-Err-clause-acted g c = λ x compact scans at h busy. record { acted = acted_looked g.D.Disk.meaning x _ c.args.own c.args.store.now c.find_named.new.store c.in-Err.fault at c.in-Err.ensures.looked (c.in-Err.ensures.sound x.ended at.stands at.unspent); marks = unmarked x.ended scans }

pub returns-in-Some-clause-acted : goal.returns-in-Some-clause-acted
returns-in-Some-clause-acted g c = λ x compact scans at h busy.
    let M = g.D.Disk.meaning in
    let a = c.args.store.now in
    let b = c.find_named.new.store in
    let stays = looked_stays M x c.args.own a b c.in-Ok.named at c.in-Ok.ensures.looked in
    let there = sym (c.in-Ok.ensures.says x.ended at.stands).obj ∙ c.in-Some.is in
    let told = subst (λ (v : Option ℕ). IsBusyBy x c.args.name.now v) (sym c.shrinker_of.ensures) (busy c.args.name.now c.in-Some.obj there) in
    let q = c.try_shrink.ensures.acted x c.args.name.now compact scans (stayed_at M x c.args.own a b at stays) h told there in
    record { acted = acted_after M x _ a b c.try_shrink.new.store c.try_shrink.result stays q.acted; marks = q.marks }

pub returns-in-None-clause-acted : goal.returns-in-None-clause-acted
returns-in-None-clause-acted g c = λ x compact scans at h busy.
    let M = g.D.Disk.meaning in
    let a = c.args.store.now in
    let b = c.find_named.new.store in
    marking_as M x _ scans a b (Ok c.refused.result) (Ok _) (ap (λ (y : Acted). Ok y) c.refused.ensures)
    (record { acted = acted_told M x _ c.args.own a b c.in-Ok.named _ at c.in-Ok.ensures.looked (first_turns a.shape x _ _ c.args.own h (no_shrink_table a.shape x c.args.name.now compact (begun_named x c.args.name.now _ h (sym (c.in-Ok.ensures.says x.ended at.stands).obj ∙ c.in-None.is))) at.own_is); marks = unmarked x.ended scans })
