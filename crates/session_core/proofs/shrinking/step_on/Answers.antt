use Rattle.std.specs.Prelude.{Ok}
use Rattle.shrink_move.specs.declared.stepping.ShrinkStep.{ShrinkStep}
use Rattle.session_core.specs.declared.session.ShrinkWork.{ShrinkWork}
use Rattle.session_core.specs.Leaving.{no_blocks}
use Rattle.session_core.specs.ShrinkEvents.{after_step}
use Rattle.session_core.proofs.Blocks.{noted_as}
use Rattle.session_core.proofs.Calls.{called_of}
use Rattle.session_core.proofs.RepairEvents.{called_either}
use Rattle.session_core.proofs.ShrinkBegins.{unshrunk_called}
use Rattle.session_core.proofs.ShrinkNotes.{stepped_notes, unstepped_notes}
use Rattle.session_core.proofs.ShrinkRefusals.{unstepped_acted}
use Rattle.session_core.proofs.ShrinkSteps.{may_step, stepped_acted, stepped_further, told_as, unstepped_further}
use Rattle.session_core.proofs.shrinking.step_on.Goals as goal

pub returns-in-Ok-clause-acted : goal.returns-in-Ok-clause-acted
returns-in-Ok-clause-acted g c = λ x scans at r.
    let M = g.D.Disk.meaning in
    let a = c.args.store.now in
    let w : ShrinkWork = record { shrink = c.args.shrink; moved = c.args.moved } in
    let b = c.step.new.store in
    let name = c.args.name.now in
    let h = c.in-Ok.ensures.steps x.ended at.stands (may_step M x name c.args.compact c.args.own w a at r) in
    stepped_acted M x name c.args.compact c.args.own w c.step.new.self c.in-Ok.step c.log_len.result a b c.step_told.result scans at r h c.in-Ok.ensures.tried (c.log_len.ensures.list h.list h.stands.list.list)
    (told_as c.after_step-doing.result (after_step c.in-Ok.step c.step.new.self c.args.moved c.log_len.result) c.args.compact name c.args.own c.step_told.result c.after_step-doing.ensures c.step_told.ensures.told) c.step_told.ensures.cause

pub returns-in-Ok-clause-noted : goal.returns-in-Ok-clause-noted
returns-in-Ok-clause-noted g c = λ x at r none.
    let M = g.D.Disk.meaning in
    let a = c.args.store.now in
    let w : ShrinkWork = record { shrink = c.args.shrink; moved = c.args.moved } in
    let h = c.in-Ok.ensures.steps x.ended at.stands (may_step M x c.args.name.now c.args.compact c.args.own w a at r) in
    stepped_notes M a.shape x.ended c.args.shrink c.step.new.self c.in-Ok.step a c.step.new.store c.args.changed.now c.note_step.new.changed c.note_step.ensures none h

pub returns-in-Ok-clause-called : goal.returns-in-Ok-clause-called
returns-in-Ok-clause-called g c =
    let M = g.D.Disk.meaning in
    let a = c.args.store.now in
    let w : ShrinkWork = record { shrink = c.args.shrink; moved = c.args.moved } in
    let b = c.step.new.store in
    called_either {A = Unit {0}} M a b tt c.step_told.result c.step_told.ensures.cause (called_of {T = Unit {0}} M a b (Ok tt) c.requires.unspent c.in-Ok.ensures.tried.loan c.in-Ok.ensures.tried.cause)

pub returns-in-Err-clause-acted : goal.returns-in-Err-clause-acted
returns-in-Err-clause-acted g c = λ x scans at r.
    let M = g.D.Disk.meaning in
    let a = c.args.store.now in
    let w : ShrinkWork = record { shrink = c.args.shrink; moved = c.args.moved } in
    let b = c.step.new.store in
    let h = c.in-Err.ensures.steps x.ended at.stands (may_step M x c.args.name.now c.args.compact c.args.own w a at r) in
    unstepped_acted M x c.args.name.now c.args.compact c.args.own w c.step.new.self c.in-Err.fault a b c.not_shrunk.result scans c.not_shrunk.ensures at r h c.in-Err.ensures.tried

pub returns-in-Err-clause-noted : goal.returns-in-Err-clause-noted
returns-in-Err-clause-noted g c = λ x at r none.
    let M = g.D.Disk.meaning in
    let a = c.args.store.now in
    let w : ShrinkWork = record { shrink = c.args.shrink; moved = c.args.moved } in
    let b = c.step.new.store in
    let h = c.in-Err.ensures.steps x.ended at.stands (may_step M x c.args.name.now c.args.compact c.args.own w a at r) in
    noted_as M x.ended b c.args.changed.now no_blocks none (unstepped_notes M a.shape x.ended c.args.shrink c.step.new.self c.in-Err.fault a b h)

pub returns-in-Err-clause-called : goal.returns-in-Err-clause-called
returns-in-Err-clause-called g c = unshrunk_called ShrinkStep g.D.Disk.meaning c.args.own c.in-Err.fault c.not_shrunk.result c.args.store.now c.step.new.store c.not_shrunk.ensures c.requires.unspent c.in-Err.ensures.tried.loan c.in-Err.ensures.tried.cause

pub returns-in-Ok-clause-further : goal.returns-in-Ok-clause-further
returns-in-Ok-clause-further g c = λ x at r.
    let M = g.D.Disk.meaning in
    let a = c.args.store.now in
    let w : ShrinkWork = record { shrink = c.args.shrink; moved = c.args.moved } in
    let name = c.args.name.now in
    let h = c.in-Ok.ensures.steps x.ended at.stands (may_step M x name c.args.compact c.args.own w a at r) in
    stepped_further M a.shape x.ended w c.step.new.self c.in-Ok.step c.log_len.result c.args.compact name c.args.own a c.step.new.store c.step_told.result h
    (told_as c.after_step-doing.result (after_step c.in-Ok.step c.step.new.self c.args.moved c.log_len.result) c.args.compact name c.args.own c.step_told.result c.after_step-doing.ensures c.step_told.ensures.told)

pub returns-in-Err-clause-further : goal.returns-in-Err-clause-further
returns-in-Err-clause-further g c = λ x at r. unstepped_further (record { shrink = c.args.shrink; moved = c.args.moved }) c.in-Err.fault c.args.own c.not_shrunk.result c.not_shrunk.ensures
