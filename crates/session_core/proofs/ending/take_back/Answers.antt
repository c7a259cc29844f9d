use Rattle.std.specs.Prelude.{Some, Ok, List, Option, ℕ}
use Rattle.std.proofs.Common.{refl, sym, ◌∙◌, subst}
use Rattle.redo_model.specs.Records.{Record}
use Rattle.redo_model.specs.Model.{standing, newest_of}
use Rattle.store_core.specs.Adding.{Adds}
use Rattle.session_core.proofs.Calls.{acted_fails, acted_after, added_stays, stayed_at}
use Rattle.session_core.proofs.Ends.{taken_back, left_none, backed_same, active_own}
use Rattle.session_core.proofs.Blocks.{noted_as, unadded_notes, taken_notes}
use Rattle.session_core.proofs.ending.take_back.Goals as goal

pub returns-in-Ok-Some-clause-acted : goal.returns-in-Ok-Some-clause-acted
returns-in-Ok-Some-clause-acted g c = λ x st k at w.
    let on = active_own c.args.store.now.shape x.ended x.session c.args.txn at.stands.lawful.allowed at.own_is in
    taken_back g.D.Disk.meaning x st c.args.txn c.in-Ok-Some.blocks c.in-Ok-Some.field-0 c.args.store.now c.back_step.new.store k at w c.in-Ok-Some.ensures.loan (c.in-Ok-Some.ensures.makes x.ended at.stands on)
    (sym c.in-Ok-Some.field-0-is ∙ c.in-Ok-Some.ensures.answer x.ended at.stands on)

pub returns-in-Ok-None-clause-acted : goal.returns-in-Ok-None-clause-acted
returns-in-Ok-None-clause-acted g c = λ x st k at w.
    let M = g.D.Disk.meaning in
    let a = c.args.store.now in
    let b = c.back_step.new.store in
    let t = c.args.txn in
    let on = active_own a.shape x.ended x.session t at.stands.lawful.allowed at.own_is in
    let none = left_none x.ended t (newest_of (standing x.ended) t) refl (sym c.in-Ok-None.field-0-is ∙ c.in-Ok-None.ensures.answer x.ended at.stands on) in
    let same = subst (λ (R : List Record). Adds {T = Option (List ℕ)} M x.ended R a b (Ok c.in-Ok-None.field-0)) (backed_same x.ended t none) (c.in-Ok-None.ensures.makes x.ended at.stands on) in
    let stays = added_stays {A = Option (List ℕ)} M x (Some t) a b c.in-Ok-None.field-0 at c.in-Ok-None.ensures.loan (c.in-Ok-None.ensures.cause.kept at.unspent) same in
    acted_after M x st a b c.end_txn.new.store c.end_txn.result stays (c.end_txn.ensures.acted x st k (stayed_at M x (Some t) a b at stays) w none)

pub returns-in-Err-clause-acted : goal.returns-in-Err-clause-acted
returns-in-Err-clause-acted g c = λ x st k at w.
    acted_fails g.D.Disk.meaning x st (Some c.args.txn) c.args.store.now c.back_step.new.store c.in-Err.fault _ at c.in-Err.ensures.loan (c.in-Err.ensures.makes x.ended at.stands (active_own c.args.store.now.shape x.ended x.session c.args.txn at.stands.lawful.allowed at.own_is))

pub returns-in-Ok-Some-clause-noted : goal.returns-in-Ok-Some-clause-noted
returns-in-Ok-Some-clause-noted g c = λ x at n.
    let on = active_own c.args.store.now.shape x.ended x.session c.args.txn at.stands.lawful.allowed at.own_is in
    taken_notes g.D.Disk.meaning x c.args.txn c.in-Ok-Some.blocks c.as_slice.result.now c.in-Ok-Some.field-0 c.args.store.now c.back_step.new.store c.of.result at (c.in-Ok-Some.ensures.makes x.ended at.stands on)
    (sym c.in-Ok-Some.field-0-is ∙ c.in-Ok-Some.ensures.answer x.ended at.stands on) c.as_slice.ensures c.of.ensures

pub returns-in-Ok-None-clause-noted : goal.returns-in-Ok-None-clause-noted
returns-in-Ok-None-clause-noted g c = λ x at n.
    let M = g.D.Disk.meaning in
    let a = c.args.store.now in
    let b = c.back_step.new.store in
    let t = c.args.txn in
    let on = active_own a.shape x.ended x.session t at.stands.lawful.allowed at.own_is in
    let none = left_none x.ended t (newest_of (standing x.ended) t) refl (sym c.in-Ok-None.field-0-is ∙ c.in-Ok-None.ensures.answer x.ended at.stands on) in
    let same = subst (λ (R : List Record). Adds {T = Option (List ℕ)} M x.ended R a b (Ok c.in-Ok-None.field-0)) (backed_same x.ended t none) (c.in-Ok-None.ensures.makes x.ended at.stands on) in
    let stays = added_stays {A = Option (List ℕ)} M x (Some t) a b c.in-Ok-None.field-0 at c.in-Ok-None.ensures.loan (c.in-Ok-None.ensures.cause.kept at.unspent) same in
    noted_as M x.ended c.end_txn.new.store c.args.changed.now _ n (c.end_txn.ensures.noted x (stayed_at M x (Some t) a b at stays) none)

pub returns-in-Err-clause-noted : goal.returns-in-Err-clause-noted
returns-in-Err-clause-noted g c = λ x at n.
    noted_as g.D.Disk.meaning x.ended c.back_step.new.store c.args.changed.now _ n
    (unadded_notes g.D.Disk.meaning x.ended _ c.args.store.now c.back_step.new.store c.in-Err.fault (c.in-Err.ensures.makes x.ended at.stands (active_own c.args.store.now.shape x.ended x.session c.args.txn at.stands.lawful.allowed at.own_is)))
