use Rattle.std.proofs.Common.{◌≡◌, drop}
use Rattle.usage_laws.specs.Types.{names_known, stated_by}
use Rattle.space_usage.proofs.named.names_known.Given as goal

abbrev pub invariant-loop-n : goal.invariant-loop-n
invariant-loop-n l = names_known (stated_by l.table) l.block.block.slots ≡ names_known (stated_by l.table) (drop l.n l.block.block.slots)
