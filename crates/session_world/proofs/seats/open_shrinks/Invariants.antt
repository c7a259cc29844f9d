use Rattle.session_world.specs.Seats.{AreShrinks}
use Rattle.session_world.proofs.seats.open_shrinks.Given as goal

abbrev pub invariant-loop-at : goal.invariant-loop-at
invariant-loop-at l = AreShrinks l.seats l.who l.at l.shrinks.items
