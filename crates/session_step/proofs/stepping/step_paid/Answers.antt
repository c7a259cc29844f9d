use Rattle.std.specs.Prelude.{length}
use Rattle.session_step.specs.Stages.{stage}
use Rattle.session_step.specs.Telling.{ends_none}
use Rattle.session_step.proofs.Steps.{begun_midst, grows_of, step_ended, step_failed, step_ran, step_ran_not}
use Rattle.session_step.proofs.stepping.step_paid.Goals as goal

pub returns-in-Ok-clause-stepped : goal.returns-in-Ok-clause-stepped
returns-in-Ok-clause-stepped g c = λ scripts R0 R sessions e h.
    let M = g.D.Disk.meaning in
    let w = c.args.who in
    let a = stage c.args.store.now c.args.history.now c.args.scans.now c.args.shrinks.now c.args.labels.now c.args.dues.now c.args.session.now in
    let b = stage c.run_statement.new.store c.run_statement.new.history c.run_statement.new.scans c.args.shrinks.now c.run_statement.new.labels c.run_statement.new.dues c.run_statement.new.session in
    let n = c.log_len.result in
    let k = length c.args.script.now in
    let on = c.in-Ok-true.ensures.on c.in-Ok-true.field-0-test in
    let first = c.in-Ok-true.ensures.first c.in-Ok-true.field-0-test in
    let mid = begun_midst M scripts R0 R sessions w a c.args.script.now n c.begin.new.history c.begin.new.session (c.log_len.ensures.list R h.stands.list) e h on first in
    step_ran M scripts R0 R sessions w a k n c.begin.new.history c.begin.new.session b c.in-Ok-true.ensures.told on first mid c.in-Ok.ensures.owes
    (c.in-Ok.ensures.ran scripts R0 R sessions mid.task e mid.midway)

pub returns-in-Err-run_statement-clause-stepped : goal.returns-in-Err-run_statement-clause-stepped
returns-in-Err-run_statement-clause-stepped g c = λ scripts R0 R sessions e h.
    let M = g.D.Disk.meaning in
    let w = c.args.who in
    let a = stage c.args.store.now c.args.history.now c.args.scans.now c.args.shrinks.now c.args.labels.now c.args.dues.now c.args.session.now in
    let b = stage c.run_statement.new.store c.run_statement.new.history c.run_statement.new.scans c.args.shrinks.now c.run_statement.new.labels c.run_statement.new.dues c.run_statement.new.session in
    let n = c.log_len.result in
    let k = length c.args.script.now in
    let on = c.in-Ok-true.ensures.on c.in-Ok-true.field-0-test in
    let first = c.in-Ok-true.ensures.first c.in-Ok-true.field-0-test in
    let mid = begun_midst M scripts R0 R sessions w a c.args.script.now n c.begin.new.history c.begin.new.session (c.log_len.ensures.list R h.stands.list) e h on first in
    step_ran_not M scripts R0 R sessions w a k n c.begin.new.history c.begin.new.session b c.in-Err-run_statement.fault c.in-Ok-true.ensures.told on first mid
    (c.in-Err-run_statement.ensures.ran scripts R0 R sessions mid.task e mid.midway)

pub returns-in-Ok-false-clause-stepped : goal.returns-in-Ok-false-clause-stepped
returns-in-Ok-false-clause-stepped g c = λ scripts R0 R sessions e h.
    let M = g.D.Disk.meaning in
    let w = c.args.who in
    let a = stage c.args.store.now c.args.history.now c.args.scans.now c.args.shrinks.now c.args.labels.now c.args.dues.now c.args.session.now in
    let same = c.in-Ok-false.ensures.same c.in-Ok-false.field-0-test in
    step_ended M scripts R0 R sessions w a c.args.script.now c.begin.new.history c.begin.new.session same.1 same.0 e (c.in-Ok-false.ensures.done c.in-Ok-false.field-0-test) h

pub returns-in-Err-clause-stepped : goal.returns-in-Err-clause-stepped
returns-in-Err-clause-stepped g c = λ scripts R0 R sessions e h.
    let M = g.D.Disk.meaning in
    let w = c.args.who in
    let a = stage c.args.store.now c.args.history.now c.args.scans.now c.args.shrinks.now c.args.labels.now c.args.dues.now c.args.session.now in
    step_failed M scripts R0 R sessions w a c.begin.new.history c.begin.new.session c.in-Err.ensures.failed.1 c.in-Err.ensures.failed.0 h

pub returns-in-Ok-clause-grows : goal.returns-in-Ok-clause-grows
returns-in-Ok-clause-grows g c = grows_of c.args.session.now c.begin.new.session c.run_statement.new.session c.args.history.now c.begin.new.history c.run_statement.new.history c.in-Ok-true.ensures.told c.in-Ok-true.ensures.begins c.in-Ok.ensures.ends

pub returns-in-Err-run_statement-clause-grows : goal.returns-in-Err-run_statement-clause-grows
returns-in-Err-run_statement-clause-grows g c = grows_of c.args.session.now c.begin.new.session c.run_statement.new.session c.args.history.now c.begin.new.history c.run_statement.new.history c.in-Ok-true.ensures.told c.in-Ok-true.ensures.begins c.in-Err-run_statement.ensures.ends

pub returns-in-Ok-false-clause-grows : goal.returns-in-Ok-false-clause-grows
returns-in-Ok-false-clause-grows g c = grows_of c.args.session.now c.begin.new.session c.begin.new.session c.args.history.now c.begin.new.history c.begin.new.history c.in-Ok-false.ensures.told c.in-Ok-false.ensures.begins ends_none

pub returns-in-Err-clause-grows : goal.returns-in-Err-clause-grows
returns-in-Err-clause-grows g c = grows_of c.args.session.now c.begin.new.session c.begin.new.session c.args.history.now c.begin.new.history c.begin.new.history c.in-Err.ensures.told c.in-Err.ensures.begins ends_none
