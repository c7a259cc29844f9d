use Rattle.session_core.proofs.Calls.{acted_fails, called_ok, called_err}
use Rattle.session_core.proofs.OnRows.{row_table}
use Rattle.session_core.proofs.Updates.{mark_is_next, marks_moved_on}
use Rattle.session_core.proofs.updating.move_marks.Goals as goal

pub returns-in-Ok-clause-acted : goal.returns-in-Ok-clause-acted
returns-in-Ok-clause-acted g c = λ x name target text who place len hint u e f.
    let M = g.D.Disk.meaning in
    let a = c.args.store.now in
    marks_moved_on M x name target text who c.args.own.now c.args.work.now place a c.step.new.store len hint c.args.mark u e f c.in-Ok.ensures.tried.loan
    (c.in-Ok.ensures.adds x.ended u.at.stands (row_table a.shape a.shape x _ _ u.at.stands.lawful.allowed u.changing) (mark_is_next M x name target text who c.args.own.now c.args.work.now place a len hint c.args.mark u f))

pub returns-in-Ok-clause-called : goal.returns-in-Ok-clause-called
returns-in-Ok-clause-called g c = called_ok g.D.Disk.meaning c.args.store.now c.step.new.store _ _ c.requires.unspent c.in-Ok.ensures.tried.loan c.in-Ok.ensures.tried.cause

pub returns-in-Err-clause-acted : goal.returns-in-Err-clause-acted
returns-in-Err-clause-acted g c = λ x name target text who place len hint u e f.
    let M = g.D.Disk.meaning in
    let a = c.args.store.now in
    acted_fails M x _ c.args.own.now a c.step.new.store c.in-Err.fault _ u.at c.in-Err.ensures.tried.loan
    (c.in-Err.ensures.adds x.ended u.at.stands (row_table a.shape a.shape x _ _ u.at.stands.lawful.allowed u.changing) (mark_is_next M x name target text who c.args.own.now c.args.work.now place a len hint c.args.mark u f))

pub returns-in-Err-clause-called : goal.returns-in-Err-clause-called
returns-in-Err-clause-called g c = called_err g.D.Disk.meaning c.args.store.now c.step.new.store c.in-Err.fault c.requires.unspent c.in-Err.ensures.tried.loan c.in-Err.ensures.tried.cause
