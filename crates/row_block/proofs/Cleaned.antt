-- A clean leaves the rows as they are.
use Rattle.std.proofs.Common.{◌≡◌, ℕ, ◌<◌, List, length, ◌+◌, ◌++◌, get_or, map, set, take, drop}
use Rattle.seg_words.proofs.Lemmas.{map_over_more}

-- a step of a loop that puts f of each item in its place
pub over_more : {X : Type 0} (f : X → X) (xs ys : List X) (i : ℕ) (x y : X) → i < length xs → ys ≡ map f (take i xs) ++ drop i xs → x ≡ get_or ys i x → y ≡ f (get_or ys i x) → set ys i y ≡ map f (take (i + 1) xs) ++ drop (i + 1) xs
over_more f xs ys i x y lt e is made = rw (made, ← is) (map_over_more f xs ys i x lt e is)
