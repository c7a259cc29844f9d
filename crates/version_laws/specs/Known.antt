-- What made an image, where a slot's images begin, and how far the undo address of an image can reach.
use Rattle.std.specs.Prelude.{◌≡◌, ◌≢◌, ℕ, ◌≤◌, true, List, [], ◌∷◌, Contains, Some, None}
use Rattle.seg_words.specs.Types.{Shape, Slot, UndoAddr, By, new_slot}
use Rattle.redo_model.specs.Records.{Record}
use Rattle.redo_model.specs.Model.{has_begun, undo_sequence, IsReused, image, slot_count, Made, makers, images, row_at, AreAllowed}
use Rattle.redo_laws.specs.Chain.{EachMade}

-- a maker's part is of a use of its block, the present one or an earlier one; a transaction that made an image has begun
pub record MadeKnown (R : List Record) (m : Made) : Type 0 where
  pub used : 1 ≤ m.part.seq
  pub low : m.part.seq ≤ undo_sequence R m.part.block
  pub begun : (u : ℕ) → m.by ≡ By u → has_begun R u ≡ true

-- the last image of a slot is the new one
abbrev pub EndsNew : Slot → List Made → Type 0
EndsNew i [] = i ≡ new_slot
EndsNew i (m ∷ ms) = EndsNew m.old ms

pub record SlotKnown (R : List Record) (b k : ℕ) : Type 0 where
  pub made : EachMade (MadeKnown R) (makers R b k)
  pub ends : EndsNew (image R b k) (makers R b k)

abbrev pub SlotsAreKnown : Type 0
SlotsAreKnown = (sh : Shape) (R : List Record) (b k : ℕ) → AreAllowed sh R → SlotKnown R b k

-- of the undo address that an image names: its block was taken into use, its sequence isn't above the block's, so where it
-- is another one the address was reused
pub record IsPast (R : List Record) (a : UndoAddr) : Type 0 where
  pub used : 1 ≤ a.seq
  pub low : a.seq ≤ undo_sequence R a.block
  pub else_reused : a.seq ≢ undo_sequence R a.block → IsReused R a

abbrev pub AddressesArePast : Type 0
AddressesArePast = (sh : Shape) (R : List Record) (b k : ℕ) (i : Slot) (a : UndoAddr) → AreAllowed sh R → Contains (images R b k) i → i.undo ≡ Some a → IsPast R a

-- a slot past a block's last one is as a new one, and nothing made it; this is so in every list
pub record IsUntouched (R : List Record) (b k : ℕ) : Type 0 where
  pub is_new : image R b k ≡ new_slot
  pub unmade : makers R b k ≡ []
  pub row : (s t : ℕ) → row_at R b k s t ≡ None

abbrev pub SlotsPastTheLast : Type 0
SlotsPastTheLast = (R : List Record) (b k : ℕ) → slot_count R b ≤ k → IsUntouched R b k
