use Rattle.std.proofs.Common.{sym, ◌∙◌, ap, Bool}
use Rattle.session_core.specs.Tests.{tested_table}
use Rattle.session_core.proofs.Calls.{acted_as, acted_told, acted_after, acted_looked, looked_stays, stayed_at}
use Rattle.session_core.proofs.Checks.{table_tested}
use Rattle.session_core.proofs.MakingTables.{first_turns, at_begun, names_begun, full_begun, tested_err, tested_ok, passed_as}
use Rattle.session_core.proofs.tables.make_table.Goals as goal

pub returns-in-Err-clause-acted : goal.returns-in-Err-clause-acted
returns-in-Err-clause-acted g c = λ x at h. acted_looked g.D.Disk.meaning x _ c.args.own c.args.store.now c.find_named.new.store c.in-Err.fault at c.in-Err.ensures.looked (c.in-Err.ensures.sound x.ended at.stands at.unspent)

pub returns-in-Ok-test_table-clause-acted : goal.returns-in-Ok-test_table-clause-acted
returns-in-Ok-test_table-clause-acted g c = λ x at h.
    let M = g.D.Disk.meaning in
    let a = c.args.store.now in
    let b = c.find_named.new.store in
    let stays = looked_stays M x c.args.own a b c.in-Ok.named at c.in-Ok.ensures.looked in
    let tested = table_tested a.shape x c.args.name.now c.args.pctfree c.in-Ok.named c.args.own c.is_log_full-full.result (names_begun x c.args.name.now c.in-Ok.named h (c.in-Ok.ensures.says x.ended at.stands)) (at_begun M x c.args.own a at h) (full_begun x c.is_log_full-full.result h (c.is_log_full-full.ensures x.ended stays.stands.list)) in
    let is = sym (c.in-Ok-test_table.ensures ∙ ap (λ (w : Bool). tested_table c.in-Ok.named w c.is_log_full-full.result) c.is_some.ensures) in
    acted_after M x _ a b c.add_table.new.store c.add_table.result stays (c.add_table.ensures.acted x (stayed_at M x c.args.own a b at stays) h (passed_as a.shape b.shape x _ (sym c.in-Ok.ensures.looked.loan.shape) (tested_ok a.shape x _ _ c.in-Ok-test_table.field-0 is tested)))

pub returns-in-Err-test_table-clause-acted : goal.returns-in-Err-test_table-clause-acted
returns-in-Err-test_table-clause-acted g c = λ x at h.
    let M = g.D.Disk.meaning in
    let a = c.args.store.now in
    let b = c.find_named.new.store in
    let stays = looked_stays M x c.args.own a b c.in-Ok.named at c.in-Ok.ensures.looked in
    let tested = table_tested a.shape x c.args.name.now c.args.pctfree c.in-Ok.named c.args.own c.is_log_full-full.result (names_begun x c.args.name.now c.in-Ok.named h (c.in-Ok.ensures.says x.ended at.stands)) (at_begun M x c.args.own a at h) (full_begun x c.is_log_full-full.result h (c.is_log_full-full.ensures x.ended stays.stands.list)) in
    let is = sym (c.in-Err-test_table.ensures ∙ ap (λ (w : Bool). tested_table c.in-Ok.named w c.is_log_full-full.result) c.is_some.ensures) in
    acted_as M x _ a b c.refused.result _ c.refused.ensures
    (acted_told M x _ c.args.own a b c.in-Ok.named _ at c.in-Ok.ensures.looked (first_turns a.shape x _ c.in-Err-test_table.refusal c.args.own h (tested_err a.shape x _ _ c.in-Err-test_table.refusal is tested) at.own_is))
