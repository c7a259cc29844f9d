-- The bytes of a log are its head and its groups, and then a closed gate. What follows that is no part of the log.
use Rattle.std.specs.Prelude.{◌≡◌, ◌≢◌, ◌⊎◌, ℕ, List, [], ◌∷◌, ◌++◌, drop, true, false}
use Rattle.seg_words.specs.Types.{AllByRecursion, Shape, is_shape}
use Rattle.log_frame.specs.Head.{head, is_formatted}
use Rattle.log_frame.specs.Frame.{frames, IsPayload}

-- these bytes, and maybe more
pub record Begins (front bytes : List ℕ) : Type 0 where
  pub rest : List ℕ
  pub is : bytes ≡ front ++ rest

-- behind these bytes stand these groups and a closed gate
pub record Stands (front : List ℕ) (groups : List (List ℕ)) (bytes : List ℕ) : Type 0 where
  pub gate : ℕ
  pub shut : gate ≢ 1
  pub begins : Begins (front ++ frames groups ++ gate ∷ []) bytes

-- the log of a store of this shape with these groups
pub record IsLog (shape : Shape) (groups : List (List ℕ)) (bytes : List ℕ) : Type 0 where
  pub within : is_shape shape ≡ true
  pub payloads : AllByRecursion IsPayload groups
  pub stands : Stands (head shape) groups bytes

-- the groups as they were, or with this one
abbrev pub WithOrWithout : Shape → List (List ℕ) → List ℕ → List ℕ → Type 0
WithOrWithout shape groups payload bytes = IsLog shape groups bytes ⊎ IsLog shape (groups ++ payload ∷ []) bytes

-- a log that isn't formatted, or the empty log of a store of this shape
abbrev pub EmptyOrNone : Shape → List ℕ → Type 0
EmptyOrNone shape bytes = (is_formatted bytes ≡ false) ⊎ IsLog shape [] bytes

-- a log whose head's gate is closed
pub record IsClosed (bytes : List ℕ) : Type 0 where
  pub gate : ℕ
  pub shut : gate ≢ 1
  pub rest : List ℕ
  pub is : bytes ≡ gate ∷ rest

-- from a place on, the bytes are these groups and a closed gate
pub record SpelledFrom (bytes : List ℕ) (from : ℕ) (groups : List (List ℕ)) : Type 0 where
  pub payloads : AllByRecursion IsPayload groups
  pub gate : ℕ
  pub shut : gate ≢ 1
  pub rest : List ℕ
  pub is : drop from bytes ≡ frames groups ++ gate ∷ rest
