-- Undo is enough: addresses are distinct, what an active transaction needs to be taken back is never reused, and no block
-- overflows.
use Rattle.std.specs.Prelude.{◌≡◌, ℕ, ◌≤◌, true, false, List, [], ◌∷◌}
use Rattle.seg_words.specs.Types.{Shape, By, BLOCK_ROOM}
use Rattle.redo_model.specs.Records.{Record}
use Rattle.redo_model.specs.Model.{Step, part_addr, is_active, is_addr, standing, undo_used, is_reused, AreAllowed}

-- a fact of each of the steps
abbrev pub EachStep : (Step → Type 0) → List Step → Type 0
EachStep P [] = Unit {0}
EachStep P (st ∷ ss) = P st × EachStep P ss

-- no two of the steps have one undo address
abbrev pub HaveOwnUndo : List Step → Type 0
HaveOwnUndo [] = Unit {0}
HaveOwnUndo (st ∷ ss) = EachStep (λ x. is_addr x.undo st.undo ≡ false) ss × HaveOwnUndo ss

-- the undo of a step of an active transaction isn't reused
abbrev pub IsKept : List Record → Step → Type 0
IsKept R st = (u j : ℕ) → st.by ≡ By u → is_active R u ≡ true → is_reused R (part_addr st.undo j) ≡ false

pub record UndoIsKept (R : List Record) : Type 0 where
  pub distinct : HaveOwnUndo (standing R)
  pub kept : EachStep (IsKept R) (standing R)
  pub full : (u : ℕ) → undo_used R u ≤ BLOCK_ROOM

abbrev pub UndoIsEnough : Type 0
UndoIsEnough = (sh : Shape) (R : List Record) → AreAllowed sh R → UndoIsKept R
