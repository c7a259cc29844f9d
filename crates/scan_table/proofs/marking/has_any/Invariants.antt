use Rattle.std.proofs.Common.{◌≡◌, false, take}
use Rattle.history_model.specs.Released.{has_any}
use Rattle.scan_table.proofs.marking.has_any.Given as goal

abbrev pub invariant-loop-dba : goal.invariant-loop-dba
invariant-loop-dba l = has_any l.shape l.extent (take l.dba-index l.blocks) ≡ false
