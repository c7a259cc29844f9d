use Rattle.std.proofs.Common.{take}
use Rattle.script_text.specs.declared.statement.Turns.{Turns}
use Rattle.session_world.specs.Order.{after_schedule}
use Rattle.session_world.proofs.Circling.{schedule_begins, schedule_more, schedule_stops, schedule_over}
use Rattle.session_world.proofs.rounds.follow_schedule.Goals as goal

abbrev no_turns : Turns
no_turns = record { who = 0; times = 0 }

pub loop-turns-init : goal.loop-turns-init
loop-turns-init g c = schedule_begins g.D.Disk.meaning c.args.scripts.now c.args.schedule.now c.args.store.now (g.K.Sink.written c.args.sink.now) (g.K.Sink.fault_count c.args.sink.now) c.args.run.now c.requires.unspent

pub returns-in-Err-clause-goes : goal.returns-in-Err-clause-goes
returns-in-Err-clause-goes g c = λ R0 R called first before h.
    let l = c.loop-turns in
    let on = l.invariant.on R0 R called first before h in
    schedule_stops g.D.Disk.meaning c.args.scripts.now R0 c.args.schedule.now l.turns-index no_turns called first c.take_turns.new.store before (g.K.Sink.written c.take_turns.new.sink) c.in-Err.fault c.loop-turns-test.true
    (c.in-Err.ensures.goes R0 on.records (after_schedule (take l.turns-index c.args.schedule.now) called) first before on.so_far)

pub loop-turns-preserved : goal.loop-turns-preserved
loop-turns-preserved g c =
    let w = g.K.Sink.written in
    let n = g.K.Sink.fault_count in
    schedule_more g.D.Disk.meaning c.args.scripts.now c.args.schedule.now c.loop-turns.turns-index no_turns c.args.store.now c.loop-turns.store c.take_turns.new.store (w c.args.sink.now) (w c.loop-turns.sink) (w c.take_turns.new.sink) (n c.args.sink.now) (n c.loop-turns.sink) (n c.take_turns.new.sink) c.args.run.now c.loop-turns.run c.take_turns.new.run
    c.loop-turns-test.true c.loop-turns.invariant c.in-Ok.ensures.served (λ R0 R called first before h. c.in-Ok.ensures.goes R0 R called first before h)

pub returns-clause-goes : goal.returns-clause-goes
returns-clause-goes g c = λ R0 R called first before h.
    let l = c.loop-turns in
    schedule_over g.D.Disk.meaning c.args.scripts.now R0 c.args.schedule.now l.turns-index called first l.store before (g.K.Sink.written l.sink) l.run c.loop-turns-test.false (l.invariant.on R0 R called first before h)
