use Rattle.session_core.proofs.Calls.{acted_fails, called_ok, called_err}
use Rattle.session_core.proofs.NewRows.{table_of, mark_allowed, marks_moved}
use Rattle.session_core.proofs.Blocks.{mark_notes, unadded_notes}
use Rattle.session_core.proofs.inserting.move_marks.Goals as goal

pub returns-in-Ok-clause-acted : goal.returns-in-Ok-clause-acted
returns-in-Ok-clause-acted g c = λ x name label text hint at w f.
    let M = g.D.Disk.meaning in
    let a = c.args.store.now in
    marks_moved M x name label text c.args.own.now c.args.obj.now hint c.args.mark a c.step.new.store at w f c.in-Ok.ensures.tried.loan
    (c.in-Ok.ensures.adds x.ended at.stands (table_of a.shape x.ended name c.args.obj.now at.stands.lawful.allowed w.still) (mark_allowed M x name label text c.args.own.now c.args.obj.now hint c.args.mark a at w f))

pub returns-in-Ok-clause-called : goal.returns-in-Ok-clause-called
returns-in-Ok-clause-called g c = called_ok g.D.Disk.meaning c.args.store.now c.step.new.store _ _ c.requires.unspent c.in-Ok.ensures.tried.loan c.in-Ok.ensures.tried.cause

pub returns-in-Err-clause-acted : goal.returns-in-Err-clause-acted
returns-in-Err-clause-acted g c = λ x name label text hint at w f.
    let M = g.D.Disk.meaning in
    let a = c.args.store.now in
    acted_fails M x _ c.args.own.now a c.step.new.store c.in-Err.fault _ at c.in-Err.ensures.tried.loan
    (c.in-Err.ensures.adds x.ended at.stands (table_of a.shape x.ended name c.args.obj.now at.stands.lawful.allowed w.still) (mark_allowed M x name label text c.args.own.now c.args.obj.now hint c.args.mark a at w f))

pub returns-in-Err-clause-called : goal.returns-in-Err-clause-called
returns-in-Err-clause-called g c = called_err g.D.Disk.meaning c.args.store.now c.step.new.store c.in-Err.fault c.requires.unspent c.in-Err.ensures.tried.loan c.in-Err.ensures.tried.cause

pub returns-in-Ok-clause-noted : goal.returns-in-Ok-clause-noted
returns-in-Ok-clause-noted g c = λ x name label text hint at w f.
    let M = g.D.Disk.meaning in
    let a = c.args.store.now in
    mark_notes M a.shape x.ended c.args.obj.now c.args.mark a c.step.new.store _ (c.in-Ok.ensures.adds x.ended at.stands (table_of a.shape x.ended name c.args.obj.now at.stands.lawful.allowed w.still) (mark_allowed M x name label text c.args.own.now c.args.obj.now hint c.args.mark a at w f))

pub returns-in-Err-clause-noted : goal.returns-in-Err-clause-noted
returns-in-Err-clause-noted g c = λ x name label text hint at w f.
    let M = g.D.Disk.meaning in
    let a = c.args.store.now in
    unadded_notes M x.ended _ a c.step.new.store c.in-Err.fault (c.in-Err.ensures.adds x.ended at.stands (table_of a.shape x.ended name c.args.obj.now at.stands.lawful.allowed w.still) (mark_allowed M x name label text c.args.own.now c.args.obj.now hint c.args.mark a at w f))
