-- Transactions with their numbers, in rising order.
use Rattle.std.specs.Prelude.{ℕ, suc, ◌<◌, ◌^◌, Bool, false, cond, eqb, ltb, List, [], ◌∷◌, Option, Some, None}

-- how many of these have a lesser number, up to the first that doesn't
abbrev pub place_for : ℕ → List (ℕ × ℕ) → ℕ
place_for t [] = 0
place_for t (c ∷ cs) = cond (ltb c.0 t) (suc (place_for t cs)) 0

-- it is a transaction with this number
abbrev pub has_number : ℕ → Option (ℕ × ℕ) → Bool
has_number t None = false
has_number t (Some c) = eqb c.0 t

-- both numbers are in the ranges of their types
abbrev pub IsShort : ℕ × ℕ → Type 0
IsShort c = (c.0 < 2 ^ 64) × (c.1 < 2 ^ 64)
