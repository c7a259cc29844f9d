use Rattle.std.proofs.Common.{◌≡◌, take}
use Rattle.bitmap_block.specs.Types.{best_of}
use Rattle.bitmap_block.proofs.best.best_of.Given as goal

abbrev pub invariant-loop-code : goal.invariant-loop-code
invariant-loop-code l = l.best ≡ best_of (take l.code-index l.codes)
