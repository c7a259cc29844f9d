-- Which blocks the parts of a record name, and whether a block is among some.
use Rattle.std.specs.Prelude.{ℕ, Bool, false, eqb, ◌||◌, List, [], ◌∷◌}
pub use Rattle.page_model.specs.Types.{blocks_of, back_blocks}

abbrev pub is_among : List ℕ → ℕ → Bool
is_among [] d = false
is_among (x ∷ xs) d = eqb x d || is_among xs d
