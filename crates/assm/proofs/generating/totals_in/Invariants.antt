use Rattle.std.proofs.Common.{◌≡◌, reverse, take}
use Rattle.history_model.specs.Types.{entries_of}
use Rattle.script_gen.specs.Summed.{totals_of}
use Rattle.assm.proofs.generating.totals_in.Given as goal

abbrev pub invariant-loop-item : goal.invariant-loop-item
invariant-loop-item l = l.totals ≡ totals_of (entries_of (reverse (take l.item-index l.items)))
