use Rattle.std.proofs.Common.{◌≡◌, ℕ, ◌<◌, false, get_or}
use Rattle.seg_words.specs.Types.{is_reusable, new_slot}
use Rattle.version_laws.specs.Types.{ended_by}
use Rattle.row_change.proofs.replaced.slot_to_use.Given as goal

abbrev pub invariant-loop-n : goal.invariant-loop-n
invariant-loop-n l = (k : ℕ) → k < l.n → is_reusable (ended_by l.ended.table.now) (get_or l.block.block.slots k new_slot) ≡ false
