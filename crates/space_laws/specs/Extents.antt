-- What stays of a table's extents, what a Lower frees, and that each block of an extent has one role.
use Rattle.std.specs.Prelude.{◌≡◌, ◌⊎◌, ℕ, ◌+◌, ◌<◌, ◌≤◌, true, not, ◌&&◌, List, ◌∷◌, Some, Contains}
use Rattle.seg_words.specs.Types.{Shape, first_block, head_blocks, is_shape, MOST_TABLES, EXTENTS_OF_L2, OWN_BLOCKS}
use Rattle.redo_model.specs.Records.{Record, Lower, LowerRecord}
use Rattle.redo_model.specs.Model.{Extends, Extent, extents_of, in_extent, data_blocks, IsTable, has_extent, is_taken, extent_at, header_of, l3_of, l2_of, group_start, AreAllowed}
use Rattle.redo_laws.specs.Among.{is_in}

-- a record that takes the extent at index n from table o: a Lower that names it
pub record IsFreedBy (r : Record) (o n : ℕ) (e : Extent) : Type 0 where
  pub lower : LowerRecord
  pub is : r ≡ Lower lower
  pub table : lower.obj ≡ o
  pub past : lower.kept ≤ n
  pub first_stays : 1 ≤ lower.kept
  pub named : is_in e.number lower.released ≡ true

-- an extent stays at its index, with its incarnation, until a Lower names it
abbrev pub ExtentsStay : Type 0
ExtentsStay = (sh : Shape) (R : List Record) (r : Record) (o n : ℕ) (e : Extent) → AreAllowed sh (r ∷ R) → extent_at (extents_of R o) n ≡ Some e → (extent_at (extents_of (r ∷ R) o) n ≡ Some e) ⊎ IsFreedBy r o n e

-- the first extent of a table stays, and so do the header and the L3
pub record FirstStays (sh : Shape) (Q R : List Record) (o : ℕ) (e : Extent) : Type 0 where
  pub extent : extent_at (extents_of R o) 0 ≡ Some e
  pub header : header_of sh (extents_of R o) ≡ header_of sh (extents_of Q o)
  pub l3 : l3_of sh (extents_of R o) ≡ l3_of sh (extents_of Q o)
  pub first_l2 : (index : ℕ) → index < EXTENTS_OF_L2 → l2_of sh (extents_of R o) index ≡ l2_of sh (extents_of Q o) index

abbrev pub FirstExtentsStay : Type 0
FirstExtentsStay = (sh : Shape) (Q R : List Record) (o : ℕ) (e : Extent) → AreAllowed sh R → Extends Q R → extent_at (extents_of Q o) 0 ≡ Some e → FirstStays sh Q R o e

-- what a Lower names is freed, and nothing else
pub record Frees (R : List Record) (l : LowerRecord) (x : ℕ) : Type 0 where
  pub of_table : (o : ℕ) → 1 ≤ o → o ≤ MOST_TABLES → has_extent (extents_of (Lower l ∷ R) o) x ≡ (has_extent (extents_of R o) x && not (is_in x l.released))
  pub of_all : is_taken (Lower l ∷ R) MOST_TABLES x ≡ (is_taken R MOST_TABLES x && not (is_in x l.released))
  pub were_there : is_in x l.released ≡ true → has_extent (extents_of R l.obj) x ≡ true

abbrev pub LowersFreeWhatTheyName : Type 0
LowersFreeWhatTheyName = (sh : Shape) (R : List Record) (l : LowerRecord) (x : ℕ) → AreAllowed sh (Lower l ∷ R) → Frees R l x

-- block b is the nth block of the extent at this index of the table, and isn't data: the first is the L1, the second an L2,
-- the third the L3, the fourth the header
pub record IsHead (sh : Shape) (R : List Record) (o index n b : ℕ) : Type 0 where
  pub table : IsTable R o
  pub extent : Extent
  pub at : extent_at (extents_of R o) index ≡ Some extent
  pub place : n < head_blocks index
  pub block : b ≡ first_block sh extent.number + n

pub record RolesAreOne (sh : Shape) (R : List Record) : Type 0 where
  pub no_data : (o p index n b : ℕ) → IsHead sh R o index n b → IsTable R p → Contains (data_blocks sh R p) b → ⊥
  pub one : (o p i j n m b : ℕ) → IsHead sh R o i n b → IsHead sh R p j m b → (o ≡ p) × (i ≡ j) × (n ≡ m)
  pub each : (o index b : ℕ) (e : Extent) → IsTable R o → extent_at (extents_of R o) index ≡ Some e → in_extent sh e.number b ≡ true
      → ((n : ℕ) × IsHead sh R o index n b) ⊎ Contains (data_blocks sh R o) b
  pub within : (o index n b : ℕ) → IsHead sh R o index n b → (OWN_BLOCKS + sh.undo ≤ b) × (b < sh.blocks)
  pub header : (o : ℕ) (e : Extent) → IsTable R o → extent_at (extents_of R o) 0 ≡ Some e → IsHead sh R o 0 3 (header_of sh (extents_of R o))
  pub l3 : (o : ℕ) (e : Extent) → IsTable R o → extent_at (extents_of R o) 0 ≡ Some e → IsHead sh R o 0 2 (l3_of sh (extents_of R o))
  pub l2 : (o index : ℕ) (e : Extent) → IsTable R o → extent_at (extents_of R o) (group_start index) ≡ Some e → IsHead sh R o (group_start index) 1 (l2_of sh (extents_of R o) index)
  pub l1 : (o index : ℕ) (e : Extent) → IsTable R o → extent_at (extents_of R o) index ≡ Some e → IsHead sh R o index 0 (first_block sh e.number)

abbrev pub EachBlockHasOneRole : Type 0
EachBlockHasOneRole = (sh : Shape) (R : List Record) → is_shape sh ≡ true → AreAllowed sh R → RolesAreOne sh R
