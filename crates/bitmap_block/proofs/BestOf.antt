-- The best of one more code.
use Rattle.std.proofs.Common.{◌≡◌, ℕ, ◌+◌, ◌<◌, ◌≤◌, max, List, [], ◌∷◌, ◌++◌, length, take, get_or, refl, ap, ◌∙◌, arith, take_all}
use Rattle.seg_words.proofs.Lemmas.{take_more}
use Rattle.bitmap_block.specs.Types.{good_code, best_of}

best_push : (xs : List ℕ) (c : ℕ) → best_of (xs ++ c ∷ []) ≡ max (good_code c) (best_of xs)
best_push [] c = refl
best_push (x ∷ xs) c = omega (arith, best_push xs c)

pub best_more : (xs : List ℕ) (i d : ℕ) → i < length xs → best_of (take (i + 1) xs) ≡ max (good_code (get_or xs i d)) (best_of (take i xs))
best_more xs i d lt = ap best_of (take_more xs i d lt) ∙ best_push (take i xs) (get_or xs i d)

pub best_all : (xs : List ℕ) (i : ℕ) → length xs ≤ i → best_of (take i xs) ≡ best_of xs
best_all xs i le = ap best_of (take_all i xs le)
