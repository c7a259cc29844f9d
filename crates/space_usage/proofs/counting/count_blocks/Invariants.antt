use Rattle.space_usage.proofs.Walks.{UsageWalk}
use Rattle.space_usage.proofs.counting.count_blocks.Given as goal

abbrev pub invariant-loop : goal.invariant-loop
invariant-loop g l = UsageWalk g.D.Disk.meaning l.fn.store l.store l.shape l.segment l.counter l.place l.usage
