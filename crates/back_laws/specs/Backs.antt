-- What the standing records of an active transaction state is still so when they are taken back: their list entries are
-- the transaction's, their blocks are row blocks of the row's table, and their undo is all there.
use Rattle.std.specs.Prelude.{◌≡◌, ℕ, ◌<◌, ◌≤◌, cond, true, List, [], ◌∷◌, Some}
use Rattle.seg_words.specs.Types.{Shape, Slot, By, entry_for, is_empty}
use Rattle.redo_model.specs.Records.{Record, RowPart}
use Rattle.redo_model.specs.Model.{Step, row_count, is_active, ended_in, standing, newest_of, IsTable, IsRowBlock, image, entry, entry_count, block_of, AreAllowed}
use Rattle.redo_laws.specs.Economy.{EachStep}
use Rattle.redo_laws.specs.Homes.{row_table}

abbrev pub EachPart : (RowPart → Type 0) → List RowPart → Type 0
EachPart P [] = Unit {0}
EachPart P (p ∷ ps) = P p × EachPart P ps

-- the list entry that a part states is the first one of its block that names t, so the one that t uses there
pub record EntryStays (R : List Record) (t : ℕ) (p : RowPart) : Type 0 where
  pub place : ℕ
  pub place_is : p.entry ≡ Some place
  pub within : place < entry_count R p.dba
  pub names_it : (entry R p.dba place).txn ≡ t
  pub first : (j : ℕ) → j < place → (entry R p.dba j).txn ≡ t → ⊥
  pub used : entry_for (ended_in R) (block_of R p.dba) t ≡ p.entry

abbrev pub StepEntries : List Record → Step → Type 0
StepEntries R st = (t : ℕ) → st.by ≡ By t → is_active R t ≡ true → EachPart (EntryStays R t) st.parts

-- of each standing record of an active transaction
abbrev pub EntriesStay : Type 0
EntriesStay = (sh : Shape) (R : List Record) → AreAllowed sh R → EachStep (StepEntries R) (standing R)

-- the record's table is there, and each part is in a row block of it
pub record HomeOf (sh : Shape) (R : List Record) (st : Step) : Type 0 where
  pub table : IsTable R st.obj
  pub blocks : EachPart (λ p. IsRowBlock sh R st.obj p.dba) st.parts

abbrev pub StepHome : Shape → List Record → Step → Type 0
StepHome sh R st = (t : ℕ) → st.by ≡ By t → is_active R t ≡ true → HomeOf sh R st

-- of each standing record of an active transaction
abbrev pub StepsAtHome : Type 0
StepsAtHome = (sh : Shape) (R : List Record) → AreAllowed sh R → EachStep (StepHome sh R) (standing R)

-- each standing record is of its row's table
pub record OfTable (R : List Record) (st : Step) : Type 0 where
  pub table : row_table R st.row ≡ st.obj
  pub given : st.row ≤ row_count R

abbrev pub StepsAreOfTables : Type 0
StepsAreOfTables = (sh : Shape) (R : List Record) → AreAllowed sh R → EachStep (OfTable R) (standing R)

-- the row of a change, by the image that stands in its slot and the one before
abbrev pub row_shown : Slot → Slot → ℕ
row_shown new old = cond (is_empty new.kind) old.row new.row

abbrev pub FirstShows : List Record → ℕ → List RowPart → Type 0
FirstShows R n [] = ⊥
FirstShows R n (p ∷ ps) = n ≡ row_shown (image R p.dba p.slot) p.old

-- the first part of an active transaction's newest record shows the row: by the image that stands in its slot, or, where
-- that is Empty, by the one before
abbrev pub NewestShows : Type 0
NewestShows = (sh : Shape) (R : List Record) (t : ℕ) (st : Step) → AreAllowed sh R → is_active R t ≡ true → newest_of (standing R) t ≡ Some st → FirstShows R st.row st.parts
