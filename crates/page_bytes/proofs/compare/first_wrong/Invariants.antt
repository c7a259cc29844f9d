use Rattle.std.proofs.Common.{◌≡◌, ◌≤◌, ◌+◌, ◌-◌, eqb, length, drop}
use Rattle.seg_words.proofs.Lemmas.{common_prefix_len}
use Rattle.page_bytes.proofs.compare.first_wrong.Given as goal

abbrev pub invariant-loop-at : goal.invariant-loop-at
invariant-loop-at l = (l.at ≤ length l.bytes) × (l.at + common_prefix_len eqb (drop l.at l.bytes) (drop l.at l.spelling) ≡ common_prefix_len eqb l.bytes l.spelling)

abbrev pub decreases-loop-at : goal.decreases-loop-at
decreases-loop-at l = length l.bytes - l.at
