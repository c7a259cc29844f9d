use Rattle.std.proofs.Common.{subst}
use Rattle.session_core.specs.Owing.{HasSettledFirst}
use Rattle.session_step.specs.Stages.{stage}
use Rattle.session_step.specs.declared.session.Turn.TheVariants as turns
use Rattle.std.specs.Prelude.{Bool, Ok}
use Rattle.session_step.proofs.Steps.{grows_same, settled_to, step_past}
use Rattle.session_step.proofs.Paying.{called_plain, paid_stands, step_after, step_paid_one, step_unpaid}
use Rattle.session_step.proofs.stepping.step_session.Goals as goal

pub returns-in-Err-clause-stepped : goal.returns-in-Err-clause-stepped
returns-in-Err-clause-stepped g c = λ scripts R0 R sessions e h.
    let a = stage c.args.store.now c.args.history.now c.args.scans.now c.args.shrinks.now c.args.labels.now c.args.dues.now c.args.session.now in
    step_unpaid g.D.Disk.meaning scripts R0 R sessions c.args.who a c.settle.new.store c.settle.new.self c.in-Err.fault (c.in-Err.ensures.settled R h.stands) c.in-Err.ensures.called.loan.shape h

pub returns-in-Ok-true-clause-stepped : goal.returns-in-Ok-true-clause-stepped
returns-in-Ok-true-clause-stepped g c = λ scripts R0 R sessions e h.
    let a = stage c.args.store.now c.args.history.now c.args.scans.now c.args.shrinks.now c.args.labels.now c.args.dues.now c.args.session.now in
    step_paid_one g.D.Disk.meaning scripts R0 R sessions c.args.who a c.settle.new.store c.settle.new.self (subst (λ (b : Bool). HasSettledFirst g.D.Disk.meaning R a.dues.owed c.settle.new.self.owed a.store c.settle.new.store (Ok b)) c.in-Ok-true.field-0-test (c.in-Ok-true.ensures.settled R h.stands)) c.in-Ok-true.ensures.noted c.in-Ok-true.ensures.called.loan.shape h

pub returns-then-session-script-clause-stepped : goal.returns-then-session-script-clause-stepped
returns-then-session-script-clause-stepped g c = λ scripts R0 R sessions e h.
    let M = g.D.Disk.meaning in
    let w = c.args.who in
    let a = stage c.args.store.now c.args.history.now c.args.scans.now c.args.shrinks.now c.args.labels.now c.args.dues.now c.args.session.now in
    let s = c.settle.new.store in
    let d = c.settle.new.self in
    let t = subst (λ (b : Bool). HasSettledFirst M R a.dues.owed d.owed a.store s (Ok b)) c.in-Ok-false.field-0-test (c.in-Ok-false.ensures.settled R h.stands) in
    let shape = c.in-Ok-false.ensures.called.loan.shape in
    step_after M scripts R0 R sessions w a s d (settled_to a s d) (Ok turns.Ended) t c.in-Ok-false.ensures.noted shape
    (step_past M scripts R0 R sessions w (settled_to a s d) c.args.script.now c.if-session-script.true e (paid_stands M scripts R0 R sessions w a s d t shape h))

pub returns-else-session-script-clause-stepped : goal.returns-else-session-script-clause-stepped
returns-else-session-script-clause-stepped g c = λ scripts R0 R sessions e h.
    let M = g.D.Disk.meaning in
    let w = c.args.who in
    let a = stage c.args.store.now c.args.history.now c.args.scans.now c.args.shrinks.now c.args.labels.now c.args.dues.now c.args.session.now in
    let s = c.settle.new.store in
    let d = c.settle.new.self in
    let t = subst (λ (b : Bool). HasSettledFirst M R a.dues.owed d.owed a.store s (Ok b)) c.in-Ok-false.field-0-test (c.in-Ok-false.ensures.settled R h.stands) in
    let shape = c.in-Ok-false.ensures.called.loan.shape in
    let b = stage c.step_paid.new.store c.step_paid.new.history c.step_paid.new.scans c.args.shrinks.now c.step_paid.new.labels c.step_paid.new.dues c.step_paid.new.session in
    step_after M scripts R0 R sessions w a s d b c.step_paid.result t c.in-Ok-false.ensures.noted shape
    (c.step_paid.ensures.stepped scripts R0 R sessions e (paid_stands M scripts R0 R sessions w a s d t shape h))

pub returns-in-Err-clause-grows : goal.returns-in-Err-clause-grows
returns-in-Err-clause-grows g c = grows_same c.args.session.now c.args.history.now

pub returns-in-Ok-true-clause-grows : goal.returns-in-Ok-true-clause-grows
returns-in-Ok-true-clause-grows g c = grows_same c.args.session.now c.args.history.now

pub returns-then-session-script-clause-grows : goal.returns-then-session-script-clause-grows
returns-then-session-script-clause-grows g c = grows_same c.args.session.now c.args.history.now

pub returns-then-session-script-clause-called : goal.returns-then-session-script-clause-called
returns-then-session-script-clause-called g c = called_plain g.D.Disk.meaning c.args.store.now c.settle.new.store c.in-Ok-false.field-0 turns.Ended c.in-Ok-false.ensures.called

pub returns-in-Ok-true-clause-called : goal.returns-in-Ok-true-clause-called
returns-in-Ok-true-clause-called g c = called_plain g.D.Disk.meaning c.args.store.now c.settle.new.store c.in-Ok-true.field-0 turns.Made c.in-Ok-true.ensures.called
