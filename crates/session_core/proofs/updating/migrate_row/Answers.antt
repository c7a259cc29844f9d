use Rattle.std.proofs.Common.{Some, ◌∙◌, ap}
use Rattle.session_core.specs.declared.changed.Changed.{Changed}
use Rattle.session_core.specs.Leaving.{with_target}
use Rattle.session_core.proofs.Calls.{acted_as, called_ok}
use Rattle.session_core.proofs.Changes.{may_act}
use Rattle.session_core.proofs.Deletes.{fault_called, was_found}
use Rattle.session_core.proofs.Updates.{is_found_to, is_target, migrated_notes, never_needs, not_updated, row_updated, unchanged_notes}
use Rattle.session_core.proofs.updating.migrate_row.Goals as goal

pub returns-in-Ok-clause-acted : goal.returns-in-Ok-clause-acted
returns-in-Ok-clause-acted g c = λ x name target len hint u e f.
    let M = g.D.Disk.meaning in
    let a = c.args.store.now in
    let b = c.update.new.store in
    let text = c.args.bytes.now in
    let who = c.args.who in
    let own = c.args.own.now in
    let w = c.args.work.now in
    let p = c.args.place.now in
    acted_as M x _ a b c.updated.result _ c.updated.ensures
    (row_updated M x name target text who own w p a b (Some c.args.to) c.in-Ok.done u (is_found_to M x name target text who own w p a len hint c.args.to u e f) c.in-Ok.ensures.loan
    (c.in-Ok.ensures.answers x.ended w.row u.at.stands (may_act M x who own a u.at u.by) (was_found M x _ w own a p u.at u.changing u.place_is) u.size (is_target M x name target text who own w p a len hint c.args.to u e f)))

pub returns-in-Ok-clause-called : goal.returns-in-Ok-clause-called
returns-in-Ok-clause-called g c = called_ok g.D.Disk.meaning c.args.store.now c.update.new.store _ _ c.requires.unspent c.in-Ok.ensures.loan c.in-Ok.ensures.cause

pub returns-in-Err-clause-acted : goal.returns-in-Err-clause-acted
returns-in-Err-clause-acted g c = λ x name target len hint u e f.
    let M = g.D.Disk.meaning in
    let a = c.args.store.now in
    let b = c.update.new.store in
    let text = c.args.bytes.now in
    let who = c.args.who in
    let own = c.args.own.now in
    let w = c.args.work.now in
    let p = c.args.place.now in
    let answers = c.in-Err.ensures.answers x.ended w.row u.at.stands (may_act M x who own a u.at u.by) (was_found M x _ w own a p u.at u.changing u.place_is) u.size (is_target M x name target text who own w p a len hint c.args.to u e f) in
    not_updated M x name target text who own w p a b (Some c.args.to) c.in-Err.fault c.not_changed.result c.not_changed.ensures u (is_found_to M x name target text who own w p a len hint c.args.to u e f)
    (never_needs M x name target text who own w p a b c.args.to c.in-Err.fault u answers) c.in-Err.ensures.loan answers

pub returns-in-Err-clause-called : goal.returns-in-Err-clause-called
returns-in-Err-clause-called g c = fault_called g.D.Disk.meaning c.args.work.now c.args.own.now c.args.store.now c.update.new.store c.in-Err.fault c.not_changed.result c.not_changed.ensures c.requires.unspent c.in-Err.ensures.loan c.in-Err.ensures.cause

pub returns-in-Ok-clause-noted : goal.returns-in-Ok-clause-noted
returns-in-Ok-clause-noted g c = λ x name target len hint u e f.
    migrated_notes g.D.Disk.meaning x name target c.args.bytes.now c.args.who c.args.own.now c.args.work.now c.args.place.now c.args.store.now len hint c.args.to c.args.changed.now _ c.in-Ok.done c.updated.result u e f
    (c.with_target.ensures ∙ ap (λ (z : Changed). with_target z c.args.to) c.home_blocks.ensures) c.updated.ensures

pub returns-in-Err-clause-noted : goal.returns-in-Err-clause-noted
returns-in-Err-clause-noted g c = λ x name target len hint u e f.
    unchanged_notes c.args.store.now.shape x.ended c.args.own.now c.args.work.now c.args.place.now c.args.bytes.now hint c.args.changed.now c.in-Err.fault c.not_changed.result c.not_changed.ensures
