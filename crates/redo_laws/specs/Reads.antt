-- What the undo address of an image leads to. An address is reused just where its block's present sequence is greater;
-- else the block holds, at the address's place, the part with the image below. So going down from a slot through undo blocks
-- meets its images one by one, up to an address that is reused, and taking back finds what it needs.
use Rattle.std.specs.Prelude.{◌≡◌, ℕ, suc, true, ltb, List, [], ◌∷◌, length, map, Some}
use Rattle.seg_words.specs.Types.{Shape, UndoAddr, By}
use Rattle.redo_model.specs.Records.{Record, RowPart}
use Rattle.redo_model.specs.Model.{Step, is_active, standing, Made, makers, part_size, undo_parts, undo_sequence, is_reused, HeldPart, undo_held, held_at, AreAllowed}
use Rattle.redo_laws.specs.Chain.{EachMade}
use Rattle.redo_laws.specs.Economy.{EachStep}

-- the block of the address holds the image that a record replaced in slot k of block b, and knows who replaced it
pub record LeadsTo (R : List Record) (b k : ℕ) (m : Made) : Type 0 where
  pub held : HeldPart
  pub there : held_at (undo_held R m.part.block) m.part.nth ≡ Some held
  pub block : held.part.dba ≡ b
  pub slot : held.part.slot ≡ k
  pub old : held.part.old ≡ m.old
  pub by : held.by ≡ m.by

-- the part of m is of the present use of its block
abbrev pub IsPresent : List Record → UndoAddr → Type 0
IsPresent R a = a.seq ≡ undo_sequence R a.block

-- these parts of a record stand one after the other from place n on
abbrev pub StandAt : List HeldPart → Step → ℕ → List RowPart → Type 0
StandAt hs st n [] = Unit {0}
StandAt hs st n (p ∷ ps) = (held_at hs n ≡ Some (record { by = st.by; previous = st.previous; count = length st.parts; part = p })) × StandAt hs st (suc n) ps

-- the block of a record of an active transaction is in the use of that time, and holds its parts
abbrev pub IsThere : List Record → Step → Type 0
IsThere R st = (u : ℕ) → st.by ≡ By u → is_active R u ≡ true → IsPresent R st.undo × StandAt (undo_held R st.undo.block) st st.undo.nth st.parts

pub record UndoReads (R : List Record) : Type 0 where
  pub reused : (a : UndoAddr) → is_reused R a ≡ ltb a.seq (undo_sequence R a.block)
  pub sizes : (u : ℕ) → undo_parts R u ≡ map (λ (h : HeldPart). record { by = h.by; size = part_size h.part }) (undo_held R u)
  pub leads : (b k : ℕ) → EachMade (λ m. IsPresent R m.part → LeadsTo R b k m) (makers R b k)
  pub there : EachStep (IsThere R) (standing R)

abbrev pub UndoIsRead : Type 0
UndoIsRead = (sh : Shape) (R : List Record) → AreAllowed sh R → UndoReads R
