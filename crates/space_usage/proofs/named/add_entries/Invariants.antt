use Rattle.std.proofs.Common.{◌≡◌, drop}
use Rattle.version_laws.specs.Types.{ended_by}
use Rattle.usage_laws.specs.Types.{with_entries, stated_by}
use Rattle.space_usage.proofs.named.add_entries.Given as goal

abbrev pub invariant-loop-i : goal.invariant-loop-i
invariant-loop-i l = with_entries (ended_by l.table) (stated_by l.table) l.block.block.entries l.fn.done.items ≡ with_entries (ended_by l.table) (stated_by l.table) (drop l.i l.block.block.entries) l.done.items
