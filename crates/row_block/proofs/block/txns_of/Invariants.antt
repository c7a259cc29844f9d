use Rattle.std.proofs.Common.{◌≡◌, take}
use Rattle.row_block.specs.Types.{txns_of}
use Rattle.row_block.proofs.block.txns_of.Given as goal

abbrev pub invariant-loop-entry : goal.invariant-loop-entry
invariant-loop-entry l = l.txns ≡ txns_of (take l.entry-index l.entries)
