use Rattle.std.proofs.Common.{◌≡◌, take}
use Rattle.script_gen.specs.Summed.{bytes_in}
use Rattle.script_gen.proofs.summing.bytes_in.Given as goal

abbrev pub invariant-loop-row : goal.invariant-loop-row
invariant-loop-row l = l.count ≡ bytes_in (take l.row-index l.rows)
