use Rattle.std.proofs.Common.{sym, ◌∙◌}
use Rattle.session_core.proofs.Calls.{acted_after, acted_as, acted_looked, looked_stays, stayed_at}
use Rattle.session_core.proofs.MakingTables.{names_begun, full_begun}
use Rattle.session_core.proofs.NewRows.{insert_begins, insert_refused}
use Rattle.session_core.proofs.Blocks.{noted_as, noted_looked}
use Rattle.session_core.proofs.inserting.start_insert.Goals as goal

pub returns-in-Err-clause-acted : goal.returns-in-Err-clause-acted
returns-in-Err-clause-acted g c = λ x label at h by size.
    acted_looked g.D.Disk.meaning x _ c.args.own c.args.store.now c.find_named.new.store c.in-Err.fault at c.in-Err.ensures.looked (c.in-Err.ensures.sound x.ended at.stands at.unspent)

pub returns-in-Ok-test_named-clause-acted : goal.returns-in-Ok-test_named-clause-acted
returns-in-Ok-test_named-clause-acted g c = λ x label at h by size.
    let M = g.D.Disk.meaning in
    let a = c.args.store.now in
    let b = c.find_named.new.store in
    let stays = looked_stays M x c.args.own a b c.in-Ok.named at c.in-Ok.ensures.looked in
    let names = names_begun x c.args.name.now c.in-Ok.named h (c.in-Ok.ensures.says x.ended at.stands) in
    let full = full_begun x c.is_log_full-full.result h (c.is_log_full-full.ensures x.ended stays.stands.list) in
    acted_after M x _ a b c.go_on_inserting.new.store c.go_on_inserting.result stays
    (c.go_on_inserting.ensures.acted x c.args.name.now label (stayed_at M x c.args.own a b at stays) by size
    (insert_begins b.shape x c.args.name.now label c.args.bytes.now c.in-Ok.named.obj c.is_log_full-full.result c.in-Ok-test_named.obj h names.obj full (sym c.test_named.ensures ∙ c.in-Ok-test_named.is)))

pub returns-in-Err-test_named-clause-acted : goal.returns-in-Err-test_named-clause-acted
returns-in-Err-test_named-clause-acted g c = λ x label at h by size.
    let M = g.D.Disk.meaning in
    let a = c.args.store.now in
    let b = c.find_named.new.store in
    let stays = looked_stays M x c.args.own a b c.in-Ok.named at c.in-Ok.ensures.looked in
    let names = names_begun x c.args.name.now c.in-Ok.named h (c.in-Ok.ensures.says x.ended at.stands) in
    let full = full_begun x c.is_log_full-full.result h (c.is_log_full-full.ensures x.ended stays.stands.list) in
    acted_as M x _ a b c.refused.result _ c.refused.ensures
    (insert_refused M x c.args.name.now label c.args.bytes.now c.args.own c.in-Ok.named.obj c.is_log_full-full.result c.in-Err-test_named.refusal a b c.in-Ok.named at h c.in-Ok.ensures.looked names.obj full (sym c.test_named.ensures ∙ c.in-Err-test_named.is))

pub returns-in-Err-clause-noted : goal.returns-in-Err-clause-noted
returns-in-Err-clause-noted g c = λ x label at h by size e. noted_as g.D.Disk.meaning x.ended c.find_named.new.store c.args.changed.now _ e (noted_looked g.D.Disk.meaning x.ended c.args.store.now c.find_named.new.store _ at.stands c.in-Err.ensures.looked)

pub returns-in-Ok-test_named-clause-noted : goal.returns-in-Ok-test_named-clause-noted
returns-in-Ok-test_named-clause-noted g c = λ x label at h by size e.
    let M = g.D.Disk.meaning in
    let a = c.args.store.now in
    let b = c.find_named.new.store in
    let stays = looked_stays M x c.args.own a b c.in-Ok.named at c.in-Ok.ensures.looked in
    let names = names_begun x c.args.name.now c.in-Ok.named h (c.in-Ok.ensures.says x.ended at.stands) in
    let full = full_begun x c.is_log_full-full.result h (c.is_log_full-full.ensures x.ended stays.stands.list) in
    c.go_on_inserting.ensures.noted x c.args.name.now label (stayed_at M x c.args.own a b at stays) by size
    (insert_begins b.shape x c.args.name.now label c.args.bytes.now c.in-Ok.named.obj c.is_log_full-full.result c.in-Ok-test_named.obj h names.obj full (sym c.test_named.ensures ∙ c.in-Ok-test_named.is)) e

pub returns-in-Err-test_named-clause-noted : goal.returns-in-Err-test_named-clause-noted
returns-in-Err-test_named-clause-noted g c = λ x label at h by size e. noted_as g.D.Disk.meaning x.ended c.find_named.new.store c.args.changed.now _ e (noted_looked g.D.Disk.meaning x.ended c.args.store.now c.find_named.new.store _ at.stands c.in-Ok.ensures.looked)
