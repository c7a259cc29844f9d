-- What sort of page each block has after some records, as a fold of those that touch it; and that each record of a lawful
-- list meets the sorts that it needs.
use Rattle.std.specs.Prelude.{◌≡◌, ℕ, ◌+◌, ◌-◌, ◌%◌, ◌<◌, ◌≤◌, Bool, true, false, cond, eqb, List, [], ◌∷◌, Some}
use Rattle.seg_words.specs.Types.{Shape, first_block, is_shape, MOST_EXTENTS, EXTENTS_OF_L2, OWN_BLOCKS, MOST_EXTENT_BLOCKS}
use Rattle.redo_model.specs.Records.{Record, Extend, FormatBlock, Class, Begin, Reuse, Insert, Update, Migrate, Return, Delete, Commit, Back, Ended, ExtendRecord, FormatBlockRecord, ClassRecord, ReuseRecord}
use Rattle.redo_model.specs.Model.{Step, effect_of, txn_count, Extent, extents_of, is_formatted, extent_at, group_start, undo_sequence, AreAllowed}
use Rattle.redo_model.specs.Effects.{Adds}
use Rattle.redo_model.specs.Worked.{small}
use Rattle.redo_laws.specs.Among.{is_in}
use Rattle.page_laws.specs.Fits.{rows_named}
use Rattle.page_model.specs.Types.{first_of, touched_sorts}

pub data Sort : Type 0 where
  Blank : Sort
  Rows : Sort
  Undo : Sort
  Txns : Sort
  First : Sort
  Second : Sort
  Third : Sort

-- a page that was never written becomes the transaction table
abbrev pub as_txns : Sort → Sort
as_txns Blank = Txns
as_txns s = s

-- of a block that the record touches: the second level is made anew with the first extent that it covers, the third with
-- the first of the table
abbrev pub sort_after : Record → ℕ → Sort → Sort
sort_after (FormatBlock f) d s = cond (eqb f.dba d) Rows s
sort_after (Reuse q) d s = cond (eqb q.block d) Undo s
sort_after (Begin g) d s = as_txns s
sort_after (Extend e) d s = cond (eqb d e.l2) (cond (eqb (e.index % EXTENTS_OF_L2) 0) Second s) (cond (eqb d e.l3) (cond (eqb e.index 0) Third s) First)
sort_after _ d s = s

abbrev pub sort_of : Shape → List Record → ℕ → Sort
sort_of sh [] d = Blank
sort_of sh (r ∷ R) d = cond (is_in d (touched_sorts sh r)) (sort_after r d (sort_of sh R d)) (sort_of sh R d)

-- the sorts that a list has made
pub record SortsOf (sh : Shape) (R : List Record) : Type 0 where
  pub formatted : (b : ℕ) → is_formatted sh R b ≡ true → sort_of sh R b ≡ Rows
  pub used : (u : ℕ) → 1 ≤ undo_sequence R u → sort_of sh R u ≡ Undo
  pub begun : 1 ≤ txn_count R → sort_of sh R 1 ≡ Txns
  pub not_begun : txn_count R ≡ 0 → sort_of sh R 1 ≡ Blank
  pub first : (o i : ℕ) (e : Extent) → extent_at (extents_of R o) i ≡ Some e → sort_of sh R (first_block sh e.number) ≡ First
  pub second : (o i : ℕ) (e : Extent) → extent_at (extents_of R o) i ≡ Some e → group_start i ≡ i → sort_of sh R (first_block sh e.number + 1) ≡ Second
  pub third : (o : ℕ) (e : Extent) → extent_at (extents_of R o) 0 ≡ Some e → sort_of sh R (first_block sh e.number + 2) ≡ Third

abbrev pub SortsAreMade : Type 0
SortsAreMade = (sh : Shape) (R : List Record) → is_shape sh ≡ true → AreAllowed sh R → SortsOf sh R

-- the record changes the transaction table, and is neither a Begin nor a Reuse
abbrev pub changes_table : Record → Bool
changes_table (Insert w) = true
changes_table (Update w) = true
changes_table (Migrate w) = true
changes_table (Return w) = true
changes_table (Delete w) = true
changes_table (Commit c) = true
changes_table (Back k) = true
changes_table (Ended e) = true
changes_table _ = false

-- the bitmaps of a data block
pub record MapsFit (sh : Shape) (R : List Record) (b l2 l3 index : ℕ) : Type 0 where
  pub first : sort_of sh R (first_of sh b) ≡ First
  pub second : sort_of sh R l2 ≡ Second
  pub third : sort_of sh R l3 ≡ Third
  pub from : first_of sh b ≤ b
  pub to : b - first_of sh b < MOST_EXTENT_BLOCKS
  pub few : index < MOST_EXTENTS

pub record RecordMeets (sh : Shape) (R : List Record) (r : Record) : Type 0 where
  pub rows : (b : ℕ) → is_in b (rows_named (effect_of r)) ≡ true → sort_of sh R b ≡ Rows
  pub undo : (st : Step) → effect_of r ≡ Adds st → sort_of sh R st.undo.block ≡ Undo
  pub table : changes_table r ≡ true → sort_of sh R 1 ≡ Txns
  pub format : (f : FormatBlockRecord) → r ≡ FormatBlock f → MapsFit sh R f.dba f.l2 f.l3 f.index
  pub class : (k : ClassRecord) → r ≡ Class k → MapsFit sh R k.dba k.l2 k.l3 k.index
  pub extend : (e : ExtendRecord) → r ≡ Extend e
      → (sort_of sh (Extend e ∷ R) e.l2 ≡ Second) × (sort_of sh (Extend e ∷ R) e.l3 ≡ Third) × (sort_of sh (Extend e ∷ R) (first_block sh e.extent) ≡ First)

abbrev pub RecordsMeetSorts : Type 0
RecordsMeetSorts = (sh : Shape) (R : List Record) (r : Record) → is_shape sh ≡ true → AreAllowed sh (r ∷ R) → RecordMeets sh R r

-- A Reuse may come first, when there is no transaction table yet: then only the record that it calls for is missing.
abbrev pub first_reuse : Record
first_reuse = Reuse (record { block = OWN_BLOCKS; sequence = 1 })

pub record FirstReuse : Type 0 where
  pub allowed : AreAllowed small (first_reuse ∷ [])
  pub touches : is_in 1 (touched_sorts small first_reuse) ≡ true
  pub blank : sort_of small [] 1 ≡ Blank
  pub left_blank : sort_of small (first_reuse ∷ []) 1 ≡ Blank

abbrev pub ReuseMayComeFirst : Type 0
ReuseMayComeFirst = FirstReuse

-- where the record that a Reuse calls for follows it, a transaction has begun before it, so that the table is there
abbrev pub CalledReusesFindTable : Type 0
CalledReusesFindTable = (sh : Shape) (R : List Record) (q : ReuseRecord) (r : Record) → is_shape sh ≡ true → AreAllowed sh (r ∷ Reuse q ∷ R) → (1 ≤ txn_count R) × (sort_of sh R 1 ≡ Txns)
