use Rattle.std.proofs.Common.{◌≡◌, drop}
use Rattle.version_laws.specs.Types.{ended_by}
use Rattle.usage_laws.specs.Types.{with_slots, stated_by}
use Rattle.space_usage.proofs.named.add_slots.Given as goal

abbrev pub invariant-loop-n : goal.invariant-loop-n
invariant-loop-n l = with_slots (ended_by l.table) (stated_by l.table) l.block.block.slots l.fn.done.items ≡ with_slots (ended_by l.table) (stated_by l.table) (drop l.n l.block.block.slots) l.done.items
