use Rattle.std.proofs.Common.{length}
use Rattle.session_world.specs.Order.{after_rounds}
use Rattle.session_world.proofs.Circling.{keeps_none, rounds_more, round_ends, round_halts, lacks_memory}
use Rattle.session_world.proofs.rounds.go_to_end.Goals as goal

pub loop-round-init : goal.loop-round-init
loop-round-init g c = keeps_none g.D.Disk.meaning c.args.scripts.now c.args.store.now (g.K.Sink.written c.args.sink.now) (g.K.Sink.fault_count c.args.sink.now) c.args.run.now c.requires.unspent

pub returns-in-Ok-false-clause-comes : goal.returns-in-Ok-false-clause-comes
returns-in-Ok-false-clause-comes g c = λ R0 R called first before h.
    let l = c.loop-round in
    let on = l.invariant.on R0 R called first before h in
    round_ends g.D.Disk.meaning c.args.scripts.now R0 called l.round first c.go_round.new.store before (g.K.Sink.written c.go_round.new.sink) c.go_round.new.run c.in-Ok-false.field-0 c.in-Ok-false.field-0-test (c.in-Ok-false.ensures.goes R0 on.records (after_rounds (length c.args.scripts.now) l.round called) first before on.so_far)

pub returns-in-Err-clause-comes : goal.returns-in-Err-clause-comes
returns-in-Err-clause-comes g c = λ R0 R called first before h.
    let l = c.loop-round in
    let on = l.invariant.on R0 R called first before h in
    round_halts g.D.Disk.meaning c.args.scripts.now R0 called l.round first c.go_round.new.store before (g.K.Sink.written c.go_round.new.sink) c.in-Err.fault (c.in-Err.ensures.goes R0 on.records (after_rounds (length c.args.scripts.now) l.round called) first before on.so_far)

pub loop-round-preserved : goal.loop-round-preserved
loop-round-preserved g c =
    let w = g.K.Sink.written in
    let n = g.K.Sink.fault_count in
    rounds_more g.D.Disk.meaning c.args.scripts.now c.loop-round.round c.args.store.now c.loop-round.store c.go_round.new.store (w c.args.sink.now) (w c.loop-round.sink) (w c.go_round.new.sink) (n c.args.sink.now) (n c.loop-round.sink) (n c.go_round.new.sink) c.args.run.now c.loop-round.run c.go_round.new.run
    c.in-Ok-true.field-0 c.in-Ok-true.field-0-test c.loop-round.invariant c.in-Ok-true.ensures.served (λ R0 R called first before h. c.in-Ok-true.ensures.goes R0 R called first before h)

pub returns-clause-comes : goal.returns-clause-comes
returns-clause-comes g c = λ R0 R called first before h.
    let l = c.loop-round in
    record { rounds = l.round; stopped = lacks_memory g.D.Disk.meaning c.args.scripts.now R0 (after_rounds (length c.args.scripts.now) l.round called) first l.store before (g.K.Sink.written l.sink) l.run (l.invariant.on R0 R called first before h) }
