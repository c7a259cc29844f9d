-- The images of a slot are a chain: each names the part of undo in which the one below stands, and that part is stated by
-- a record. So the first image that counts is reached by going down through undo, and what was reused on the way is the
-- undo that was needed.
use Rattle.std.specs.Prelude.{◌≡◌, ◌⊎◌, ℕ, suc, cond, Bool, List, [], ◌∷◌, Some, None}
use Rattle.seg_words.specs.Types.{Shape, Slot, UndoAddr, Writer}
use Rattle.redo_model.specs.Records.{Record, RowPart}
use Rattle.redo_model.specs.Model.{Step, part_addr, standing, image, Made, makers, needed_on, AreAllowed}

-- each image names the part with the one below, and the last names none
abbrev pub IsChain : Slot → List Made → Type 0
IsChain i [] = i.undo ≡ None
IsChain i (m ∷ ms) = (i.undo ≡ Some m.part) × IsChain m.old ms

-- one of the parts, of which the first stands at place i, states this old image of the slot at the part's address
abbrev pub IsStatedIn : Step → ℕ → List RowPart → ℕ → ℕ → Made → Type 0
IsStatedIn st i [] b k m = ⊥
IsStatedIn st i (p ∷ ps) b k m = ((p.dba ≡ b) × (p.slot ≡ k) × (p.old ≡ m.old) × (m.part ≡ part_addr st.undo i)) ⊎ IsStatedIn st (suc i) ps b k m

-- one of the steps states it
abbrev pub IsStated : List Step → ℕ → ℕ → Made → Type 0
IsStated [] b k m = ⊥
IsStated (st ∷ ss) b k m = ((st.by ≡ m.by) × (st.undo ≡ m.undo) × IsStatedIn st 0 st.parts b k m) ⊎ IsStated ss b k m

abbrev pub EachMade : (Made → Type 0) → List Made → Type 0
EachMade P [] = Unit {0}
EachMade P (m ∷ ms) = P m × EachMade P ms

-- the addresses that are followed on the way down to the first image that counts, and that image
abbrev pub followed : (Writer → UndoAddr → Bool) → List Made → List UndoAddr
followed c [] = []
followed c (m ∷ ms) = cond (c m.by m.undo) [] (m.part ∷ followed c ms)

abbrev pub IsAmong : UndoAddr → List UndoAddr → Type 0
IsAmong a [] = ⊥
IsAmong a (x ∷ xs) = (x ≡ a) ⊎ IsAmong a xs

pub record ChainOf (R : List Record) (b k : ℕ) : Type 0 where
  pub chain : IsChain (image R b k) (makers R b k)
  pub stated : EachMade (IsStated (standing R) b k) (makers R b k)
  pub needed : (c : Writer → UndoAddr → Bool) (a : UndoAddr) → IsAmong a (followed c (makers R b k)) → IsAmong a (needed_on c (makers R b k))

abbrev pub SlotsAreChains : Type 0
SlotsAreChains = (sh : Shape) (R : List Record) (b k : ℕ) → AreAllowed sh R → ChainOf R b k
