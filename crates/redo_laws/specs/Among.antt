-- What is in a list of blocks, and in a list of anything.
use Rattle.std.specs.Prelude.{◌≡◌, ◌⊎◌, ℕ, Bool, true, false, ◌||◌, eqb, List, [], ◌∷◌, Contains}

-- the list has this block
abbrev pub is_in : ℕ → List ℕ → Bool
is_in b [] = false
is_in b (x ∷ xs) = eqb x b || is_in b xs

abbrev pub IsOneOf : {A : Type 0} → A → List A → Type 0
IsOneOf p [] = ⊥
IsOneOf p (q ∷ qs) = (q ≡ p) ⊎ IsOneOf p qs

-- each of the second list is one of the first, in any order
abbrev pub AreSome : {A : Type 0} → List A → List A → Type 0
AreSome ps [] = Unit {0}
AreSome ps (q ∷ qs) = IsOneOf q ps × AreSome ps qs

-- a block is in a list where the list contains it
pub record IsInTells (b : ℕ) (bs : List ℕ) : Type 0 where
  pub contains : is_in b bs ≡ true → Contains bs b
  pub is_there : Contains bs b → is_in b bs ≡ true

abbrev pub MembershipIsTold : Type 0
MembershipIsTold = (b : ℕ) (bs : List ℕ) → IsInTells b bs
