-- Codes that are taken away leave codes.
use Rattle.std.proofs.Common.{◌≡◌, ℕ, zero, suc, ◌<◌, ◌≤◌, List, [], ◌∷◌, ◌++◌, length, take, drop, slice_index, sym, ap, subst, arith}
use Rattle.std.specs.Prelude.{replicate}
use Rattle.std.proofs.lemmas.List.{length-replicate}
use Rattle.bitmap_block.specs.Codes.{GREATEST_CODE, AreCodes, HasCodes, cleared_from}
use Rattle.bitmap_block.proofs.Reading.{no_codes}

rest_are : (x : ℕ) (xs : List ℕ) → AreCodes (x ∷ xs) → AreCodes xs
rest_are x xs all i lt = all (suc i) (omega (arith, lt))

are_cleared : (n : ℕ) (xs : List ℕ) (count : ℕ) → AreCodes xs → n ≤ length xs → n ≤ count → (i : ℕ) → i < length (cleared_from count n xs) → slice_index (cleared_from count n xs) i ≤ GREATEST_CODE
are_cleared zero xs count all le few i lt = (no_codes count).each i lt
are_cleared (suc n) [] count all le few i lt = absurd (omega (arith, le))
are_cleared (suc n) (x ∷ xs) zero all le few i lt = absurd (omega (arith, few))
are_cleared (suc n) (x ∷ xs) (suc count) all le few zero lt = all zero (omega arith)
are_cleared (suc n) (x ∷ xs) (suc count) all le few (suc i) lt = are_cleared n xs count (rest_are x xs all) (omega (arith, le)) (omega (arith, few)) i (omega (arith, lt))

length-cleared : (n : ℕ) (xs : List ℕ) (count : ℕ) → length xs ≡ count → n ≤ count → length (cleared_from count n xs) ≡ count
length-cleared zero xs count is le = length-replicate {A = ℕ} count 0
length-cleared (suc n) [] zero is le = absurd (omega (arith, le))
length-cleared (suc n) [] (suc count) is le = absurd (omega (arith, is))
length-cleared (suc n) (x ∷ xs) zero is le = absurd (omega (arith, is))
length-cleared (suc n) (x ∷ xs) (suc count) is le = ap suc (length-cleared n xs count (omega (arith, is)) (omega (arith, le)))

pub cleared_has_codes : (xs new : List ℕ) (count n : ℕ) → HasCodes count xs → n ≤ count → new ≡ cleared_from count n xs → HasCodes count new
cleared_has_codes xs new count n has le is = subst (HasCodes count) (sym is) (record { count = length-cleared n xs count has.count le; each = are_cleared n xs count has.each (omega (arith, le, has.count)) le })
