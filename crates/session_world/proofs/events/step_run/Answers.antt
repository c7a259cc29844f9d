use Rattle.std.proofs.Common.{refl}
use Rattle.std.specs.Prelude.{Ok, Err, length}
use Rattle.session_world.proofs.Circling.{turn_fails, turn_taken, line_fails, since_then}
use Rattle.session_world.proofs.events.step_run.Goals as goal

pub returns-in-Err-clause-turns : goal.returns-in-Err-clause-turns
returns-in-Err-clause-turns g c = λ R0 R called first before so.
    let sink = g.K.Sink.written c.args.sink.now in
    turn_fails g.D.Disk.meaning c.args.scripts.now R0 R called c.args.who first c.args.store.now c.step_any.new.store before sink sink c.args.run.now c.step_any.new.run so c.in-Err.fault (c.in-Err.ensures.moved R0 R so.at) refl

pub returns-in-Ok-hand_out-clause-turns : goal.returns-in-Ok-hand_out-clause-turns
returns-in-Ok-hand_out-clause-turns g c = λ R0 R called first before so.
    let mid = g.K.Sink.written c.args.sink.now in
    let after = g.K.Sink.written c.hand_out.new.sink in
    let T = c.args.run.now.history in
    turn_taken g.D.Disk.meaning c.args.scripts.now R0 R called c.args.who first c.args.store.now c.step_any.new.store before mid after c.args.run.now c.step_any.new.run so c.in-Ok.turn (c.in-Ok.ensures.moved R0 R so.at) c.in-Ok.ensures.called.kept
    (since_then c.len-before.result (length T) c.step_any.new.run.history mid after (Ok tt) c.len-before.ensures c.in-Ok-hand_out.ensures.handed)

pub returns-in-Err-hand_out-clause-turns : goal.returns-in-Err-hand_out-clause-turns
returns-in-Err-hand_out-clause-turns g c = λ R0 R called first before so.
    let mid = g.K.Sink.written c.args.sink.now in
    let after = g.K.Sink.written c.hand_out.new.sink in
    let T = c.args.run.now.history in
    line_fails g.D.Disk.meaning c.args.scripts.now R0 R called c.args.who first c.args.store.now c.step_any.new.store before mid after c.args.run.now c.step_any.new.run so c.in-Ok.turn c.in-Err-hand_out.fault (c.in-Ok.ensures.moved R0 R so.at) c.in-Ok.ensures.called.kept
    (since_then c.len-before.result (length T) c.step_any.new.run.history mid after (Err c.in-Err-hand_out.fault) c.len-before.ensures c.in-Err-hand_out.ensures.handed)
