use Rattle.std.proofs.Common.{◌≡◌, ◌<◌, ◌+◌, ◌*◌, ℕ, slice_index, w32}
use Rattle.page_store.specs.Types.{NUMBERS_AT}
use Rattle.seg_words.specs.Types.{number_in}
use Rattle.page_store.proofs.area.numbers.Given as goal

abbrev pub invariant-loop-i : goal.invariant-loop-i
invariant-loop-i l = (k : ℕ) → k < l.i → slice_index l.block-items k ≡ number_in w32 l.head (NUMBERS_AT + 4 * k)
