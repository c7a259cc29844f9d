-- What the first n records of a list are in longer lists.
use Rattle.std.specs.Prelude.{◌≡◌, ℕ, ◌≤◌, List, ◌∷◌, length}
use Rattle.redo_model.specs.Records.{Record}
use Rattle.redo_model.specs.Model.{prefix, Extends}

pub record PrefixesOf (R : List Record) : Type 0 where
  pub all : (n : ℕ) → length R ≤ n → prefix R n ≡ R
  pub more : (r : Record) (n : ℕ) → n ≤ length R → prefix (r ∷ R) n ≡ prefix R n
  pub size : (n : ℕ) → n ≤ length R → length (prefix R n) ≡ n
  pub twice : (m n : ℕ) → m ≤ n → prefix (prefix R n) m ≡ prefix R m
  pub extends : (n : ℕ) → Extends (prefix R n) R
  pub shorter : (Q : List Record) → Extends Q R → length Q ≤ length R
  pub first : (Q : List Record) → Extends Q R → prefix R (length Q) ≡ Q
  pub longer : (Q : List Record) (n : ℕ) → Extends Q R → n ≤ length Q → prefix R n ≡ prefix Q n

abbrev pub PrefixesStay : Type 0
PrefixesStay = (R : List Record) → PrefixesOf R
