use Rattle.std.proofs.Common.{length}
use Rattle.session_core.proofs.Settlings.{HasIdled}
use Rattle.session_core.proofs.settling.settle_owed.Given as goal

abbrev pub invariant-loop-block : goal.invariant-loop-block
invariant-loop-block g l = HasIdled g.D.Disk.meaning l.fn.owed l.owed l.fn.store l.store

abbrev pub decreases-loop-block : goal.decreases-loop-block
decreases-loop-block g l = length l.owed
