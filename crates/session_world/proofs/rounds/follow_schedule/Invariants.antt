use Rattle.std.proofs.Common.{take}
use Rattle.session_world.specs.Order.{after_schedule}
use Rattle.session_world.proofs.Circling.{KeepsOn}
use Rattle.session_world.proofs.rounds.follow_schedule.Given as goal

abbrev pub invariant-loop-turns : goal.invariant-loop-turns
invariant-loop-turns g l = KeepsOn g.D.Disk.meaning l.scripts (λ called. after_schedule (take l.turns-index l.schedule) called) l.fn.store l.store (g.K.Sink.written l.fn.sink) (g.K.Sink.written l.sink) (g.K.Sink.fault_count l.fn.sink) (g.K.Sink.fault_count l.sink) l.fn.run l.run
