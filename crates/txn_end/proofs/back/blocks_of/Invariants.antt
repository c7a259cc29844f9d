use Rattle.std.proofs.Common.{◌≡◌, take}
use Rattle.txn_end.specs.Backing.{blocks_of_parts}
use Rattle.txn_end.proofs.back.blocks_of.Given as goal

abbrev pub invariant-loop-part : goal.invariant-loop-part
invariant-loop-part l = l.blocks ≡ blocks_of_parts (take l.part-index l.parts)
