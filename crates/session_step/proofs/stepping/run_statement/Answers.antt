use Rattle.std.specs.Prelude.{Err, length}
use Rattle.std.proofs.Common.{refl}
use Rattle.scan_table.specs.Places.{place}
use Rattle.session_step.specs.Stages.{stage}
use Rattle.session_step.specs.Telling.{ends_none}
use Rattle.history_model.specs.Spans.{now_of}
use Rattle.session_step.proofs.Running.{begins_now, called_told, closing_now, finishes_from, knows_now, owes_told, run_fails, run_told, turn_now, turn_taken}
use Rattle.session_step.proofs.stepping.run_statement.Goals as goal

pub returns-in-Ok-clause-ran : goal.returns-in-Ok-clause-ran
returns-in-Ok-clause-ran g c = λ scripts R0 R sessions task e m.
    let M = g.D.Disk.meaning in
    let w = c.args.who in
    let a = stage c.args.store.now c.args.history.now c.args.scans.now c.args.shrinks.now c.args.labels.now c.args.dues.now c.args.session.now in
    let b = stage c.act_next-acted.new.store c.tell_all.new.history c.act_next-acted.new.scans c.args.shrinks.now c.tell_all.new.labels c.tell_all.new.dues c.tell_all.new.session in
    run_told M scripts c.args.script.now R0 R sessions w task a b _ c.in-Ok.acted c.tell_all.result refl c.in-Ok.ensures.called.loan.shape e m
    (c.in-Ok.ensures.turned (now_of scripts R w task) (begins_now M scripts R0 R sessions w task a m) (knows_now M scripts R0 R sessions w task a c.replace-doing.result c.replace-doing.ensures.value m) (closing_now M scripts c.args.script.now R0 R sessions w task a e m) (turn_taken M (now_of scripts R w task) _ w a.session.own a.labels (place w a.scans) c.replace-doing.result a.session.doing a.store c.replace-doing.ensures.value (turn_now M scripts c.args.script.now R0 R sessions w task a c.requires.least c.requires.most c.requires.unspent e m)))
    c.tell_all.ensures.bound (finishes_from w (length c.args.script.now) b.store.log.count (M.clock b.store.disk) c.in-Ok.acted _ a.session b.session a.history b.history c.tell_all.result c.tell_all.ensures.finishes) c.tell_all.ensures.failed c.tell_all.ensures.cause

pub returns-in-Ok-clause-owes : goal.returns-in-Ok-clause-owes
returns-in-Ok-clause-owes g c =
    owes_told c.args.who (length c.args.script.now) c.act_next-acted.new.store.log.count (g.D.Disk.meaning.clock c.act_next-acted.new.store.disk) c.in-Ok.acted c.args.session.now c.tell_all.new.session c.args.history.now c.tell_all.new.history c.act_next-acted.new.changed c.args.dues.now c.tell_all.new.dues c.tell_all.result
    c.tell_all.ensures.owes (finishes_from c.args.who (length c.args.script.now) c.act_next-acted.new.store.log.count (g.D.Disk.meaning.clock c.act_next-acted.new.store.disk) c.in-Ok.acted _ c.args.session.now c.tell_all.new.session c.args.history.now c.tell_all.new.history c.tell_all.result c.tell_all.ensures.finishes)

pub returns-in-Ok-clause-called : goal.returns-in-Ok-clause-called
returns-in-Ok-clause-called g c = called_told g.D.Disk.meaning c.args.store.now c.act_next-acted.new.store c.in-Ok.acted c.tell_all.result c.tell_all.ensures.cause c.in-Ok.ensures.called

pub returns-in-Err-clause-ran : goal.returns-in-Err-clause-ran
returns-in-Err-clause-ran g c = λ scripts R0 R sessions task e m.
    let M = g.D.Disk.meaning in
    let w = c.args.who in
    let a = stage c.args.store.now c.args.history.now c.args.scans.now c.args.shrinks.now c.args.labels.now c.args.dues.now c.args.session.now in
    let b = stage c.act_next-acted.new.store c.args.history.now c.act_next-acted.new.scans c.args.shrinks.now c.args.labels.now c.args.dues.now (record { told = c.args.session.now.told; begins = c.args.session.now.begins; doing = c.replace-doing.new.dest; own = c.args.session.now.own }) in
    let h = c.in-Err.ensures.turned (now_of scripts R w task) (begins_now M scripts R0 R sessions w task a m) (knows_now M scripts R0 R sessions w task a c.replace-doing.result c.replace-doing.ensures.value m) (closing_now M scripts c.args.script.now R0 R sessions w task a e m) (turn_taken M (now_of scripts R w task) _ w a.session.own a.labels (place w a.scans) c.replace-doing.result a.session.doing a.store c.replace-doing.ensures.value (turn_now M scripts c.args.script.now R0 R sessions w task a c.requires.least c.requires.most c.requires.unspent e m)) in
    run_fails M scripts c.args.script.now R0 R sessions w task a b (Err c.in-Err.fault) c.in-Err.fault c.in-Err.ensures.called.loan.shape refl refl h.acted.sound e m h

pub returns-in-Err-clause-ends : goal.returns-in-Err-clause-ends
returns-in-Err-clause-ends g c = ends_none
