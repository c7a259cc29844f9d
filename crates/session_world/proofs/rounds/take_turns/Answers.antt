use Rattle.std.proofs.Common.{◌≡◌, arith}
use Rattle.session_world.specs.Order.{after_item}
use Rattle.session_world.proofs.Circling.{keeps_none, item_more, item_rests, item_stops, item_over}
use Rattle.session_world.proofs.rounds.take_turns.Goals as goal

pub loop-taken-init : goal.loop-taken-init
loop-taken-init g c = keeps_none g.D.Disk.meaning c.args.scripts.now c.args.store.now (g.K.Sink.written c.args.sink.now) (g.K.Sink.fault_count c.args.sink.now) c.args.run.now c.requires.unspent

pub returns-in-Ok-false-clause-goes : goal.returns-in-Ok-false-clause-goes
returns-in-Ok-false-clause-goes g c = λ R0 R called first before h.
    let l = c.loop-taken in
    let t = c.args.turns.now in
    let on = l.invariant.on R0 R called first before h in
    item_rests g.D.Disk.meaning c.args.scripts.now R0 on.records called t.who l.taken t.times first c.take_turn.new.store before (g.K.Sink.written c.take_turn.new.sink) l.run c.take_turn.new.run c.in-Ok-false.field-0 c.in-Ok-false.field-0-test c.loop-taken-test.true
    (c.in-Ok-false.ensures.turned R0 on.records (after_item t.who l.taken called) first before on.so_far)

pub returns-in-Err-clause-goes : goal.returns-in-Err-clause-goes
returns-in-Err-clause-goes g c = λ R0 R called first before h.
    let l = c.loop-taken in
    let t = c.args.turns.now in
    let on = l.invariant.on R0 R called first before h in
    item_stops g.D.Disk.meaning c.args.scripts.now R0 called t.who l.taken t.times first c.take_turn.new.store before (g.K.Sink.written c.take_turn.new.sink) c.in-Err.fault c.loop-taken-test.true (c.in-Err.ensures.turned R0 on.records (after_item t.who l.taken called) first before on.so_far)

pub loop-taken-preserved : goal.loop-taken-preserved
loop-taken-preserved g c =
    let w = g.K.Sink.written in
    let n = g.K.Sink.fault_count in
    item_more g.D.Disk.meaning c.args.scripts.now c.args.turns.now.who c.loop-taken.taken c.args.store.now c.loop-taken.store c.take_turn.new.store (w c.args.sink.now) (w c.loop-taken.sink) (w c.take_turn.new.sink) (n c.args.sink.now) (n c.loop-taken.sink) (n c.take_turn.new.sink) c.args.run.now c.loop-taken.run c.take_turn.new.run
    c.in-Ok-true.field-0 c.loop-taken.invariant c.in-Ok-true.ensures.served (λ R0 R called first before h. c.in-Ok-true.ensures.turned R0 R called first before h)

pub returns-clause-goes : goal.returns-clause-goes
returns-clause-goes g c = λ R0 R called first before h.
    let l = c.loop-taken in
    let t = c.args.turns.now in
    let all : l.taken ≡ t.times = omega (arith, l.auto.taken-end, c.loop-taken-test.false) in
    item_over g.D.Disk.meaning c.args.scripts.now R0 called t.who l.taken t.times first l.store before (g.K.Sink.written l.sink) l.run all (l.invariant.on R0 R called first before h)
