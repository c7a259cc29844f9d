-- Whether some record after the first n of a list is of a kind.
use Rattle.std.specs.Prelude.{ℕ, Bool, false, cond, ◌||◌, ltb, List, [], ◌∷◌, length}
use Rattle.redo_model.specs.Records.{Record}

abbrev pub any_since : (Record → Bool) → ℕ → List Record → Bool
any_since p n [] = false
any_since p n (r ∷ R) = cond (ltb (length R) n) false (p r || any_since p n R)
