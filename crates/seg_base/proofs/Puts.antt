-- A put is a store at a place that is there, and a push right behind the last.
use Rattle.std.proofs.Common.{◌≡◌, ℕ, zero, suc, ◌<◌, List, [], ◌∷◌, ◌++◌, length, set, get_or, max, cond, eqb, refl, ap, arith}
use Rattle.std.proofs.Math.Dec.{eqb-suc-zero, eqb-zero-suc, eqb-suc-suc}
use Rattle.seg_base.specs.Blocks.{put}

pub put_set : {A : Type 0} (d : A) (xs : List A) (k : ℕ) (v : A) → k < length xs → put d xs k v ≡ set xs k v
put_set d [] k v h = absurd (omega arith)
put_set {A = A} d (x ∷ xs) zero v h = refl
put_set {A = A} d (x ∷ xs) (suc k) v h = ap (λ (ys : List A). x ∷ ys) (put_set d xs k v (omega arith))

pub put_push : {A : Type 0} (d : A) (xs : List A) (k : ℕ) (v : A) → k ≡ length xs → put d xs k v ≡ xs ++ v ∷ []
put_push d [] zero v h = refl
put_push d [] (suc k) v h = absurd (omega arith)
put_push {A = A} d (x ∷ xs) zero v h = absurd (omega arith)
put_push {A = A} d (x ∷ xs) (suc k) v h = ap (λ (ys : List A). x ∷ ys) (put_push d xs k v (omega arith))

-- how long a list is after a put, and what stands at each place
pub length-put : {A : Type 0} (d : A) (xs : List A) (k : ℕ) (v : A) → length (put d xs k v) ≡ max (suc k) (length xs)
length-put d [] zero v = refl
length-put d [] (suc k) v = omega (arith, length-put d [] k v)
length-put d (x ∷ xs) zero v = omega arith
length-put d (x ∷ xs) (suc k) v = omega (arith, length-put d xs k v)

pub get_or-put : {A : Type 0} (d : A) (xs : List A) (k : ℕ) (v : A) (j : ℕ) → get_or (put d xs k v) j d ≡ cond (eqb k j) v (get_or xs j d)
get_or-put d [] zero v zero = refl
get_or-put d [] zero v (suc j) = rw (eqb-zero-suc j) refl
get_or-put d [] (suc k) v zero = rw (eqb-suc-zero k) refl
get_or-put d [] (suc k) v (suc j) = rw (eqb-suc-suc k j) (get_or-put d [] k v j)
get_or-put d (x ∷ xs) zero v zero = refl
get_or-put d (x ∷ xs) zero v (suc j) = rw (eqb-zero-suc j) refl
get_or-put d (x ∷ xs) (suc k) v zero = rw (eqb-suc-zero k) refl
get_or-put d (x ∷ xs) (suc k) v (suc j) = rw (eqb-suc-suc k j) (get_or-put d xs k v j)
