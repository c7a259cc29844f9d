use Rattle.std.proofs.Common.{None}
use Rattle.session_core.specs.Updates.{IsUpdating}
use Rattle.session_core.proofs.Changes.{may_act}
use Rattle.session_core.proofs.Deletes.{was_found}
use Rattle.session_core.proofs.Updates.{acted_then_looked, called_then_looked, home_notes, located_at, place_there, row_updated, unspent_needy}
use Rattle.session_core.proofs.updating.update_row.Goals as goal

pub returns-in-Ok-clause-acted : goal.returns-in-Ok-clause-acted
returns-in-Ok-clause-acted g c = λ x name target at by size k e h.
    let M = g.D.Disk.meaning in
    let a = c.args.store.now in
    let b = c.update.new.store in
    let text = c.args.bytes.now in
    let who = c.args.who in
    let own = c.args.own in
    let w = c.args.work.now in
    let p = c.args.place.now in
    let done = c.in-Ok.done in
    let u : IsUpdating M x name target c.args.bytes.now who own w p a = record { at = at; by = by; size = size; changing = k; place_is = e; located = located_at a.shape x.ended own w p e h } in
    let answers = c.in-Ok.ensures.answers x.ended w.row at.stands (may_act M x who own a at by) (was_found M x _ w own a p at k e) size tt in
    let done_so = row_updated M x name target text who own w p a b None done u tt c.in-Ok.ensures.loan answers in
    acted_then_looked M x _ a b c.updated_at_home.new.store _ c.updated_at_home.result done_so c.updated_at_home.ensures.looked c.updated_at_home.ensures.answer
    (c.updated_at_home.ensures.sound done_so.records done_so.stands (c.in-Ok.ensures.cause.kept at.unspent) (place_there M x name target text who own w p a b None done u c.in-Ok.ensures.loan answers))

pub returns-in-Ok-clause-called : goal.returns-in-Ok-clause-called
returns-in-Ok-clause-called g c = called_then_looked g.D.Disk.meaning c.args.store.now c.update.new.store c.updated_at_home.new.store c.in-Ok.done c.updated_at_home.result c.requires.unspent c.in-Ok.ensures.loan c.in-Ok.ensures.cause c.updated_at_home.ensures.looked

pub returns-in-Err-clause-acted : goal.returns-in-Err-clause-acted
returns-in-Err-clause-acted g c = λ x name target at by size k e h.
    let M = g.D.Disk.meaning in
    let a = c.args.store.now in
    let who = c.args.who in
    let own = c.args.own in
    let w = c.args.work.now in
    let p = c.args.place.now in
    c.go_on_refused.ensures.acted x name target a (record { at = at; by = by; size = size; changing = k; place_is = e; located = located_at a.shape x.ended own w p e h }) (record {
      loan = c.in-Err.ensures.loan;
      cause = c.in-Err.ensures.cause;
      answers = c.in-Err.ensures.answers x.ended w.row at.stands (may_act M x who own a at by) (was_found M x _ w own a p at k e) size tt;
    })

pub returns-in-Err-clause-called : goal.returns-in-Err-clause-called
returns-in-Err-clause-called g c = c.go_on_refused.ensures.called c.args.store.now c.requires.unspent c.in-Err.ensures.loan c.in-Err.ensures.cause

pub returns-in-Ok-clause-noted : goal.returns-in-Ok-clause-noted
returns-in-Ok-clause-noted g c = λ x name target at by size k e h.
    let M = g.D.Disk.meaning in
    let a = c.args.store.now in
    let who = c.args.who in
    let own = c.args.own in
    let w = c.args.work.now in
    let p = c.args.place.now in
    let u : IsUpdating M x name target c.args.bytes.now who own w p a = record { at = at; by = by; size = size; changing = k; place_is = e; located = located_at a.shape x.ended own w p e h } in
    home_notes M x name target c.args.bytes.now who own w p a c.update.new.store c.args.hint c.args.changed.now c.updated_at_home.new.changed c.in-Ok.done c.updated_at_home.result u c.in-Ok.ensures.loan
    (c.in-Ok.ensures.answers x.ended w.row at.stands (may_act M x who own a at by) (was_found M x _ w own a p at k e) size tt) c.updated_at_home.ensures.answer c.updated_at_home.ensures.noted

pub returns-in-Err-clause-noted : goal.returns-in-Err-clause-noted
returns-in-Err-clause-noted g c = λ x name target at by size k e h.
    let M = g.D.Disk.meaning in
    let a = c.args.store.now in
    let who = c.args.who in
    let own = c.args.own in
    let w = c.args.work.now in
    let p = c.args.place.now in
    c.go_on_refused.ensures.noted x name target a (record { at = at; by = by; size = size; changing = k; place_is = e; located = located_at a.shape x.ended own w p e h }) (record {
      loan = c.in-Err.ensures.loan;
      cause = c.in-Err.ensures.cause;
      answers = c.in-Err.ensures.answers x.ended w.row at.stands (may_act M x who own a at by) (was_found M x _ w own a p at k e) size tt;
    })
