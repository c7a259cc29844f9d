use Rattle.session_world.proofs.Circling.{GoesRound}
use Rattle.session_world.proofs.rounds.go_round.Given as goal

abbrev pub invariant-loop-at : goal.invariant-loop-at
invariant-loop-at g l = GoesRound g.D.Disk.meaning l.scripts l.at l.fn.store l.store (g.K.Sink.written l.fn.sink) (g.K.Sink.written l.sink) (g.K.Sink.fault_count l.fn.sink) (g.K.Sink.fault_count l.sink) l.fn.run l.run l.made
