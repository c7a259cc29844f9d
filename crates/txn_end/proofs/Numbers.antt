-- A number among those of a list.
use Rattle.std.proofs.Common.{◌≡◌, ℕ, zero, suc, ◌+◌, Bool, true, false, ◌||◌, List, [], ◌∷◌, drop, Option, Some, None, refl, sym, ◌∙◌, ap, arith}
use Rattle.segment_blocks.specs.Types.{extent_at}
use Rattle.txn_end.specs.Reading.{has_number, number_is}

drop_has : (xs : List ℕ) (i x : ℕ) → has_number (drop i xs) x ≡ (number_is (extent_at xs i) x || has_number (drop (suc i) xs) x)
drop_has [] zero x = refl
drop_has [] (suc i) x = refl
drop_has (y ∷ ys) zero x = refl
drop_has (y ∷ ys) (suc i) x = drop_has ys i x

pub number_found : (xs : List ℕ) (i x : ℕ) (b : Bool) → has_number xs x ≡ has_number (drop i xs) x → b ≡ number_is (extent_at xs i) x → b ≡ true → true ≡ has_number xs x
number_found xs i x b before e y = sym (before ∙ drop_has xs i x ∙ ap (λ (z : Bool). z || has_number (drop (suc i) xs) x) (sym e ∙ y))

pub number_next : (xs : List ℕ) (i x : ℕ) (b : Bool) → has_number xs x ≡ has_number (drop i xs) x → b ≡ number_is (extent_at xs i) x → b ≡ false → has_number xs x ≡ has_number (drop (i + 1) xs) x
number_next xs i x b before e n = before ∙ drop_has xs i x ∙ ap (λ (z : Bool). z || has_number (drop (suc i) xs) x) (sym e ∙ n) ∙ ap (λ m. has_number (drop m xs) x) (let z : suc i ≡ i + 1 = omega arith in z)
