use Rattle.std.proofs.Common.{None, sym, ◌∙◌, subst}
use Rattle.std.specs.Prelude.{◌≡◌}
use Rattle.session_core.proofs.Calls.{acted_after}
use Rattle.session_core.proofs.Deletes.{fault_called}
use Rattle.session_core.proofs.Updates.{is_needy, needy_called, needy_later, none_needed, not_updated, notes_later, refused_stays, unchanged_notes, updating_later}
use Rattle.session_core.proofs.updating.go_on_refused.Goals as goal

pub returns-in-Some-clause-acted : goal.returns-in-Some-clause-acted
returns-in-Some-clause-acted g c = λ x name target a u h.
    let M = g.D.Disk.meaning in
    let b = c.args.store.now in
    let f = c.args.fault in
    let who = c.args.who in
    let own = c.args.own.now in
    let w = c.args.work.now in
    let p = c.args.place.now in
    let len = c.in-Some.len in
    let e = sym c.needed_in.ensures ∙ c.in-Some.is in
    let stays = refused_stays M x name target c.args.bytes.now who own w p a b f len e u h in
    acted_after M x _ a b c.go_elsewhere.new.store c.go_elsewhere.result stays
    (c.go_elsewhere.ensures.acted x name target (updating_later M x name target c.args.bytes.now who own w p a b stays u) (needy_later a.shape b.shape x own w p c.args.bytes.now len stays.shape (is_needy M x.ended who own _ a b f len e h.answers).answer_is))

pub returns-in-Some-clause-called : goal.returns-in-Some-clause-called
returns-in-Some-clause-called g c = λ a n loan cause.
    needy_called g.D.Disk.meaning a c.args.store.now c.go_elsewhere.new.store c.args.fault c.in-Some.len c.go_elsewhere.result (sym c.needed_in.ensures ∙ c.in-Some.is) n loan cause c.go_elsewhere.ensures.called

pub returns-in-None-clause-acted : goal.returns-in-None-clause-acted
returns-in-None-clause-acted g c = λ x name target a u h.
    not_updated g.D.Disk.meaning x name target c.args.bytes.now c.args.who c.args.own.now c.args.work.now c.args.place.now a c.args.store.now None c.args.fault c.not_changed.result c.not_changed.ensures u tt
    (λ l e. none_needed c.args.fault l (sym c.needed_in.ensures ∙ c.in-None.is) e) h.loan h.answers

pub returns-in-None-clause-called : goal.returns-in-None-clause-called
returns-in-None-clause-called g c = λ a n loan cause.
    fault_called g.D.Disk.meaning c.args.work.now c.args.own.now a c.args.store.now c.args.fault c.not_changed.result c.not_changed.ensures n loan cause

pub returns-in-Some-clause-noted : goal.returns-in-Some-clause-noted
returns-in-Some-clause-noted g c = λ x name target a u h.
    let M = g.D.Disk.meaning in
    let b = c.args.store.now in
    let f = c.args.fault in
    let who = c.args.who in
    let own = c.args.own.now in
    let w = c.args.work.now in
    let p = c.args.place.now in
    let len = c.in-Some.len in
    let e = sym c.needed_in.ensures ∙ c.in-Some.is in
    let stays = refused_stays M x name target c.args.bytes.now who own w p a b f len e u h in
    notes_later a.shape b.shape x.ended own w p c.args.bytes.now c.args.hint c.args.changed.now c.go_elsewhere.new.changed c.go_elsewhere.result stays.shape
    (c.go_elsewhere.ensures.noted x name target (updating_later M x name target c.args.bytes.now who own w p a b stays u) (needy_later a.shape b.shape x own w p c.args.bytes.now len stays.shape (is_needy M x.ended who own _ a b f len e h.answers).answer_is))

pub returns-in-None-clause-noted : goal.returns-in-None-clause-noted
returns-in-None-clause-noted g c = λ x name target a u h.
    unchanged_notes a.shape x.ended c.args.own.now c.args.work.now c.args.place.now c.args.bytes.now c.args.hint c.args.changed.now c.args.fault c.not_changed.result c.not_changed.ensures
