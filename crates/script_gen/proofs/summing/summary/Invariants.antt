use Rattle.std.proofs.Common.{◌≡◌, reverse, take}
use Rattle.script_gen.specs.Summed.{totals_of}
use Rattle.script_gen.proofs.summing.summary.Given as goal

abbrev pub invariant-loop-entry : goal.invariant-loop-entry
invariant-loop-entry l = l.totals ≡ totals_of (reverse (take l.entry-index l.entries))
