use Rattle.std.proofs.Common.{◌≡◌}
use Rattle.recovery.specs.Next.{least_among}
use Rattle.recovery.proofs.next.least_active.Given as goal

abbrev pub invariant-loop-i : goal.invariant-loop-i
invariant-loop-i l = l.least ≡ least_among l.table.entries l.i
