-- The cursor of a shrink that began after the records B: what is true of it after the records R, and what a step does.
use Rattle.std.specs.Prelude.{◌≡◌, ℕ, ◌≤◌, ◌<◌, true, false, List, ◌∷◌, ◌++◌, length, Option, Some, None}
use Rattle.seg_words.specs.Types.{Shape, By, writer_has_ended}
use Rattle.redo_model.specs.Records.{Record, MoveRecord, ReuseRecord}
use Rattle.redo_model.specs.Model.{is_active, ended_in, data_blocks, first_taker}
use Rattle.redo_laws.specs.Added.{names_slot}
use Rattle.shrink_laws.specs.declared.skip.Skip.{Skip}
use Rattle.shrink_laws.specs.Stops.{IsFull, row_image, is_skipped, IsPassed, IsAt, last_formatted, LeadsDown}
use Rattle.redo_record.specs.declared.record.Record.TheVariants as made

-- The table has the blocks that it had, in their places. Each slot above the cursor that holds anything was passed, whether
-- its row may be moved or not: so it stays true when a writer ends.
pub record CursorStands (sh : Shape) (B R : List Record) (o : ℕ) (skips : List Skip) (cursor : ℕ) : Type 0 where
  pub longer : length B ≤ length R
  pub far : List ℕ
  pub grown : data_blocks sh R o ≡ data_blocks sh B o ++ far
  pub within : cursor ≤ last_formatted sh B o
  pub above : (i b k : ℕ) → cursor < i → i ≤ last_formatted sh B o → IsAt sh R o i b → IsFull R b k → IsPassed (length B) R skips b k

-- in the blocks from below the cursor down to above n all was skipped
abbrev pub Cleared : Shape → List Record → ℕ → List Skip → ℕ → ℕ → Type 0
Cleared sh R o skips n cursor = (i b k : ℕ) → n < i → i ≤ cursor → IsAt sh R o i b → IsFull R b k → is_skipped skips b k ≡ true

-- the cursor goes down to the slot with the greatest number that wasn't skipped
pub record Finds (sh : Shape) (R : List Record) (o : ℕ) (skips : List Skip) (cursor place d k : ℕ) : Type 0 where
  pub down : place ≤ cursor
  pub not_first : 1 ≤ place
  pub cleared : Cleared sh R o skips place cursor
  pub here : IsAt sh R o place d
  pub full : IsFull R d k
  pub fresh : is_skipped skips d k ≡ false
  pub greater : (j : ℕ) → k < j → IsFull R d j → is_skipped skips d j ≡ true

-- its row has an active writer, and it is skipped
pub record StepSkips (sh : Shape) (R : List Record) (o : ℕ) (skips : List Skip) (cursor place d k t : ℕ) : Type 0 where
  pub finds : Finds sh R o skips cursor place d k
  pub writer : (row_image R d k).writer ≡ By t
  pub active : is_active R t ≡ true

abbrev pub skip_of : List Record → ℕ → ℕ → ℕ → Skip
skip_of R d k t = record { block = d; slot = k; txn = t; records = length R }

-- perhaps undo is reused, then the row is moved
pub record StepMoves (sh : Shape) (R R' : List Record) (o : ℕ) (skips : List Skip) (cursor place d k : ℕ) : Type 0 where
  pub finds : Finds sh R o skips cursor place d k
  pub over : writer_has_ended (ended_in R) (row_image R d k).writer ≡ true
  pub between : List Record
  pub reuse : Option ReuseRecord
  pub may : between ≡ elim reuse [ None ↦ R | Some q ↦ made.Reuse q ∷ R ]
  pub move : MoveRecord
  pub table : move.obj ≡ o
  pub names : names_slot move.parts d k ≡ true
  pub adds : R' ≡ made.Move move ∷ between

-- no block takes it
pub record StepStops (sh : Shape) (R : List Record) (o : ℕ) (skips : List Skip) (cursor place d k : ℕ) : Type 0 where
  pub finds : Finds sh R o skips cursor place d k
  pub over : writer_has_ended (ended_in R) (row_image R d k).writer ≡ true
  pub not_down : LeadsDown sh R o place d k → ⊥
  pub none_takes : first_taker sh R o place (length (row_image R d k).bytes) ≡ None
