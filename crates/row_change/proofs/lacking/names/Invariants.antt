use Rattle.std.proofs.Common.{◌≡◌, map, take}
use Rattle.seg_words.specs.Types.{ListEntry}
use Rattle.row_change.proofs.lacking.names.Given as goal

abbrev pub invariant-loop-i : goal.invariant-loop-i
invariant-loop-i l = l.txns ≡ map (λ (e : ListEntry). e.txn) (take l.i l.block.block.entries)
