use Rattle.session_world.specs.Order.{after_item}
use Rattle.session_world.proofs.Circling.{KeepsOn}
use Rattle.session_world.proofs.rounds.take_turns.Given as goal

abbrev pub invariant-loop-taken : goal.invariant-loop-taken
invariant-loop-taken g l = KeepsOn g.D.Disk.meaning l.scripts (λ called. after_item l.turns.who l.taken called) l.fn.store l.store (g.K.Sink.written l.fn.sink) (g.K.Sink.written l.sink) (g.K.Sink.fault_count l.fn.sink) (g.K.Sink.fault_count l.sink) l.fn.run l.run
