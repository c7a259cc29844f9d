use Rattle.std.proofs.Common.{◌≡◌, drop}
use Rattle.txn_end.specs.Reading.{has_number}
use Rattle.txn_end.proofs.table.has_number.Given as goal

abbrev pub invariant-loop-index : goal.invariant-loop-index
invariant-loop-index l = has_number l.header.extents l.extent ≡ has_number (drop l.index l.header.extents) l.extent
