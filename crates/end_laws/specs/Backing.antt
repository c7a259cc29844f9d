-- What a step of a rollback finds: all that its record states stands in the undo of the record that it takes back, in that
-- record's row blocks, and in the headers of tables.
use Rattle.std.specs.Prelude.{◌≡◌, ℕ, ◌+◌, ◌-◌, ◌/◌, ◌<◌, ◌≤◌, Bool, true, List, [], ◌∷◌, length, slice_get, Option, Some, None}
use Rattle.seg_words.specs.Types.{Shape, UndoAddr, UndoPlace, By, entry_for, is_shape, OWN_BLOCKS, MOST_UNDO_PARTS}
use Rattle.redo_model.specs.Records.{Record, RowPart}
use Rattle.redo_model.specs.Model.{Step, is_active, standing, newest_of, undo_of_step, without_step, has_extent, extents_of, IsTable, IsRowBlock, block_of, HeldPart, undo_held, undo_sequence, held_at, AreAllowed}
use Rattle.back_laws.specs.Backs.{FirstShows}
use Rattle.version_laws.specs.Types.{IsInUse}

-- a part of a record as its undo block holds it
abbrev pub held_of : Step → RowPart → HeldPart
held_of st p = record { by = st.by; previous = st.previous; count = length st.parts; part = p }

-- The part at place i stands in the record's undo block, i places behind the first; its block is a row block of the table,
-- and whoever has ended, the transaction uses the list entry there that the part states.
pub record PartTold (sh : Shape) (R : List Record) (t : ℕ) (st : Step) (i : ℕ) (p : RowPart) : Type 0 where
  pub held : held_at (undo_held R st.undo.block) (st.undo.nth + i) ≡ Some (held_of st p)
  pub home : IsRowBlock sh R st.obj p.dba
  pub place : ℕ
  pub stated : p.entry ≡ Some place
  pub enters : (ended : ℕ → Bool) → entry_for ended (block_of R p.dba) t ≡ Some place

-- the extent in which a block stands, by its number
abbrev pub extent_number : Shape → ℕ → ℕ
extent_number sh b = (b - (OWN_BLOCKS + sh.undo)) / sh.extent

-- the table has the extent of the first part's block
abbrev pub IsInExtent : Shape → List Record → ℕ → List RowPart → Type 0
IsInExtent sh R o [] = ⊥
IsInExtent sh R o (p ∷ ps) = (OWN_BLOCKS + sh.undo ≤ p.dba) × (has_extent (extents_of R o) (extent_number sh p.dba) ≡ true)

-- an undo address in the present use of its block
abbrev pub present_addr : List Record → Option UndoPlace → Option UndoAddr
present_addr R None = None
present_addr R (Some p) = Some (record { block = p.block; seq = undo_sequence R p.block; nth = p.nth })

-- the newest standing record of an active transaction
pub record BackTold (sh : Shape) (R : List Record) (t : ℕ) (st : Step) : Type 0 where
  pub by : st.by ≡ By t
  pub in_use : IsInUse sh R st.undo.block
  pub least : 1 ≤ length st.parts
  pub most : length st.parts ≤ 3
  pub place : st.undo.nth < MOST_UNDO_PARTS
  pub part : (i : ℕ) (p : RowPart) → slice_get st.parts i ≡ Some p → PartTold sh R t st i p
  pub table : IsTable R st.obj
  pub extent : IsInExtent sh R st.obj st.parts
  pub shows : FirstShows R st.row st.parts
  pub before : (a : UndoPlace) → st.previous ≡ Some a → IsInUse sh R a.block
  pub last : present_addr R st.previous ≡ undo_of_step (newest_of (without_step st.undo (standing R)) t)

abbrev pub BacksAreTold : Type 0
BacksAreTold = (sh : Shape) (R : List Record) (t : ℕ) (st : Step) → is_shape sh ≡ true → AreAllowed sh R → is_active R t ≡ true → newest_of (standing R) t ≡ Some st → BackTold sh R t st
