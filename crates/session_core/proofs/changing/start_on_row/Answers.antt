use Rattle.std.proofs.Common.{sym, ◌∙◌}
use Rattle.session_core.proofs.Calls.{acted_after, acted_as, acted_looked, looked_stays, stayed_at}
use Rattle.session_core.proofs.MakingTables.{names_begun, full_begun}
use Rattle.session_core.proofs.OnRows.{about_passed, change_refused}
use Rattle.session_core.proofs.changing.start_on_row.Goals as goal

pub returns-in-Err-clause-acted : goal.returns-in-Err-clause-acted
returns-in-Err-clause-acted g c = λ x st at h k.
    acted_looked g.D.Disk.meaning x _ c.args.own c.args.store.now c.find_named.new.store c.in-Err.fault at c.in-Err.ensures.looked (c.in-Err.ensures.sound x.ended at.stands at.unspent)

pub returns-in-Ok-test_named-clause-acted : goal.returns-in-Ok-test_named-clause-acted
returns-in-Ok-test_named-clause-acted g c = λ x st at h k.
    let M = g.D.Disk.meaning in
    let a = c.args.store.now in
    let b = c.find_named.new.store in
    let stays = looked_stays M x c.args.own a b c.in-Ok.named at c.in-Ok.ensures.looked in
    let names = names_begun x c.args.name.now c.in-Ok.named h (c.in-Ok.ensures.says x.ended at.stands) in
    let full = full_begun x c.is_log_full-full.result h (c.is_log_full-full.ensures x.ended stays.stands.list) in
    acted_after M x _ a b c.look_first.new.store c.look_first.result stays
    (c.look_first.ensures.acted x st c.args.name.now (stayed_at M x c.args.own a b at stays) h k
    (about_passed b.shape x st c.args.name.now c.args.target.now c.args.bound c.in-Ok.named.obj c.is_log_full-full.result c.in-Ok-test_named.obj k names.obj full (sym c.test_named.ensures ∙ c.in-Ok-test_named.is)))

pub returns-in-Err-test_named-clause-acted : goal.returns-in-Err-test_named-clause-acted
returns-in-Err-test_named-clause-acted g c = λ x st at h k.
    let M = g.D.Disk.meaning in
    let a = c.args.store.now in
    let b = c.find_named.new.store in
    let stays = looked_stays M x c.args.own a b c.in-Ok.named at c.in-Ok.ensures.looked in
    let names = names_begun x c.args.name.now c.in-Ok.named h (c.in-Ok.ensures.says x.ended at.stands) in
    let full = full_begun x c.is_log_full-full.result h (c.is_log_full-full.ensures x.ended stays.stands.list) in
    acted_as M x _ a b c.refused.result _ c.refused.ensures
    (change_refused M x st c.args.name.now c.args.target.now c.args.own c.args.bound c.in-Ok.named.obj c.is_log_full-full.result c.in-Err-test_named.refusal a b c.in-Ok.named at h k c.in-Ok.ensures.looked names.obj full (sym c.test_named.ensures ∙ c.in-Err-test_named.is))
