use Rattle.std.proofs.Common.{length}
use Rattle.session_world.specs.Order.{after_rounds}
use Rattle.session_world.proofs.Circling.{KeepsOn}
use Rattle.session_world.proofs.rounds.go_to_end.Given as goal

abbrev pub invariant-loop-round : goal.invariant-loop-round
invariant-loop-round g l = KeepsOn g.D.Disk.meaning l.scripts (λ called. after_rounds (length l.scripts) l.round called) l.fn.store l.store (g.K.Sink.written l.fn.sink) (g.K.Sink.written l.sink) (g.K.Sink.fault_count l.fn.sink) (g.K.Sink.fault_count l.sink) l.fn.run l.run
