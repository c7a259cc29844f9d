use Rattle.std.proofs.Common.{length}
use Rattle.session_core.proofs.Noted.{HasMoved}
use Rattle.session_core.proofs.owed.move_all.Given as goal

abbrev pub invariant-loop-block : goal.invariant-loop-block
invariant-loop-block l = HasMoved l.fn.from l.fn.to l.from l.to

abbrev pub decreases-loop-block : goal.decreases-loop-block
decreases-loop-block l = length l.from
