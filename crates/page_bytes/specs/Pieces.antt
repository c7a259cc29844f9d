-- Pieces of one size, one behind the other.
use Rattle.std.specs.Prelude.{ℕ, zero, suc, List, [], ◌∷◌, take, drop}

-- the first n pieces of some bytes, where meaning says what so many bytes read as
unfoldable pub pieces_in : {A : Type 0} → (List ℕ → A) → ℕ → ℕ → List ℕ → List A
pieces_in meaning size zero bytes = []
pieces_in meaning size (suc n) bytes = meaning (take size bytes) ∷ pieces_in meaning size n (drop size bytes)
