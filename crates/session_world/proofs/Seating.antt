-- One seat of a run is set.
use Rattle.std.proofs.Common.{◌≡◌, ◌≢◌, ℕ, zero, suc, ◌-◌, ◌<◌, ◌≤◌, List, [], ◌∷◌, length, get_or, set, slice_get, Some, refl, sym, ◌∙◌, ap, arith, length-set}
use Rattle.std.proofs.lemmas.Option.{slice_get-get_or}
use Rattle.session_world.specs.declared.seats.Seat.{Seat}
use Rattle.session_world.specs.Seats.{told_in, told_at}

set_own : (xs : List Seat) (i : ℕ) (s : Seat) → i < length xs → slice_get (set xs i s) i ≡ Some s
set_own [] i s l = absurd (omega (arith, l))
set_own (x ∷ xs) zero s l = refl
set_own (x ∷ xs) (suc i) s l = set_own xs i s (omega (arith, l))

set_other : (xs : List Seat) (i j : ℕ) (s : Seat) → j ≢ i → slice_get (set xs i s) j ≡ slice_get xs j
set_other [] i j s ne = refl
set_other (x ∷ xs) zero zero s ne = absurd (ne refl)
set_other (x ∷ xs) zero (suc j) s ne = refl
set_other (x ∷ xs) (suc i) zero s ne = refl
set_other (x ∷ xs) (suc i) (suc j) s ne = set_other xs i j s (λ e. ne (ap (λ (n : ℕ). suc n) e))

told_read_at : (xs : List Seat) (w : ℕ) (s : Seat) → 1 ≤ w → w ≤ length xs → s ≡ get_or xs (w - 1) s → told_at xs w ≡ s.session
told_read_at xs w s from to e = ap told_in (slice_get-get_or xs (w - 1) s (omega (arith, from, to)) ∙ ap (λ (z : Seat). Some z) (sym e))

told_set_at : (xs : List Seat) (w : ℕ) (s : Seat) → 1 ≤ w → w ≤ length xs → told_at (set xs (w - 1) s) w ≡ s.session
told_set_at xs w s from to = ap told_in (set_own xs (w - 1) s (omega (arith, from, to)))

told_stays_at : (xs : List Seat) (v w : ℕ) (s : Seat) → 1 ≤ v → 1 ≤ w → v ≢ w → told_at (set xs (w - 1) s) v ≡ told_at xs v
told_stays_at xs v w s v_from w_from ne = ap told_in (set_other xs (w - 1) (v - 1) s (λ e. ne (omega (arith, e, v_from, w_from))))

-- the session of a seat as it is read, as it is set, and as it stays; n is the number of the session
pub told_read : (xs : List Seat) (n w : ℕ) (s : Seat) → n ≡ w → 1 ≤ w → w ≤ length xs → s ≡ get_or xs (n - 1) s → told_at xs w ≡ s.session
told_read xs n w s is from to e = told_read_at xs w s from to (e ∙ ap (λ (k : ℕ). get_or xs (k - 1) s) is)

pub told_set : (xs : List Seat) (n w : ℕ) (s : Seat) → n ≡ w → 1 ≤ w → w ≤ length xs → told_at (set xs (n - 1) s) w ≡ s.session
told_set xs n w s is from to = ap (λ (k : ℕ). told_at (set xs (k - 1) s) w) is ∙ told_set_at xs w s from to

pub told_stays : (xs : List Seat) (n v w : ℕ) (s : Seat) → n ≡ w → 1 ≤ v → 1 ≤ w → v ≢ w → told_at (set xs (n - 1) s) v ≡ told_at xs v
told_stays xs n v w s is v_from w_from ne = ap (λ (k : ℕ). told_at (set xs (k - 1) s) v) is ∙ told_stays_at xs v w s v_from w_from ne

pub seats_stay : (xs : List Seat) (n : ℕ) (s : Seat) → length (set xs (n - 1) s) ≡ length xs
seats_stay xs n s = length-set xs (n - 1) s
