-- The extent at an index.
use Rattle.std.proofs.Common.{◌≡◌, ℕ, zero, suc, ◌<◌, ◌≤◌, List, [], ◌∷◌, length, get_or, Some, None, refl, arith}
use Rattle.segment_blocks.specs.Types.{extent_at}

pub extent_at_some : (xs : List ℕ) (i d : ℕ) → i < length xs → extent_at xs i ≡ Some (get_or xs i d)
extent_at_some [] i d lt = absurd (omega (arith, lt))
extent_at_some (x ∷ xs) zero d lt = refl
extent_at_some (x ∷ xs) (suc i) d lt = extent_at_some xs i d (omega (arith, lt))

pub extent_at_none : (xs : List ℕ) (i : ℕ) → length xs ≤ i → extent_at xs i ≡ None
extent_at_none [] i le = refl
extent_at_none (x ∷ xs) zero le = absurd (omega (arith, le))
extent_at_none (x ∷ xs) (suc i) le = extent_at_none xs i (omega (arith, le))
