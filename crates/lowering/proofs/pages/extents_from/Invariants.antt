use Rattle.std.proofs.Common.{◌≡◌, ◌≤◌, ◌++◌, drop, length}
use Rattle.lowering.proofs.pages.extents_from.Given as goal

abbrev pub invariant-loop-index : goal.invariant-loop-index
invariant-loop-index l = (l.found ++ drop l.index l.header.extents ≡ drop l.kept l.header.extents) × (length l.found ≤ l.index)
