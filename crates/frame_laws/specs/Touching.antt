-- How many blocks allowed records touch, each counted once for each record: fewer than a pool has frames beside its dirty ones.
use Rattle.std.specs.Prelude.{◌≡◌, ℕ, ◌-◌, ◌≤◌, false, List, ◌∷◌, ◌++◌, length}
use Rattle.seg_words.specs.Types.{Shape}
use Rattle.redo_model.specs.Records.{Record, Table, Movement, Extend, FormatBlock, Class, Advance, Lower, Begin, Reuse, Insert, Update, Migrate, Return, Delete, Commit, Back, Ended, Move, Clean}
use Rattle.redo_model.specs.Model.{is_whole, AreAllowed}
use Rattle.page_set.specs.Folded.{touched_once}
use Rattle.buffer_pool.specs.declared.frame.TheConstants.{FRAMES, MOST_DIRTY}

-- the frames that are left when as many as may be are dirty
abbrev pub free_frames : ℕ
free_frames = FRAMES - MOST_DIRTY

-- How many blocks a record of each kind touches at most. Of the transaction table, an undo block and up to three row blocks a
-- change of a row touches all, a Back not the undo block, a Move not the table. A Lower touches the space bitmap, the header, and
-- of bitmaps the third level and up to three of the second.
abbrev pub most_blocks : Record → ℕ
most_blocks (Table t) = 2
most_blocks (Movement m) = 1
most_blocks (Extend e) = 5
most_blocks (FormatBlock f) = 4
most_blocks (Class k) = 3
most_blocks (Advance a) = 1
most_blocks (Lower l) = 6
most_blocks (Begin g) = 1
most_blocks (Reuse q) = 2
most_blocks (Insert w) = 5
most_blocks (Update w) = 5
most_blocks (Migrate w) = 5
most_blocks (Return w) = 5
most_blocks (Delete w) = 5
most_blocks (Commit c) = 1
most_blocks (Back k) = 4
most_blocks (Ended e) = 1
most_blocks (Move m) = 4
most_blocks (Clean c) = 1

pub record TouchesFew (sh : Shape) (r : Record) : Type 0 where
  pub kind : length (touched_once sh r) ≤ most_blocks r
  pub all : length (touched_once sh r) ≤ 6
  pub framed : length (touched_once sh r) ≤ free_frames

abbrev pub RecordsTouchFew : Type 0
RecordsTouchFew = (sh : Shape) (R : List Record) (r : Record) → AreAllowed sh (r ∷ R) → TouchesFew sh r

-- a record after the records R, and the one after it
pub record PairTouchesFew (sh : Shape) (R : List Record) (r s : Record) : Type 0 where
  pub all : length (touched_once sh r ++ touched_once sh s) ≤ 12
  pub called : is_whole (r ∷ R) ≡ false → length (touched_once sh r ++ touched_once sh s) ≤ 7
  pub framed : length (touched_once sh r ++ touched_once sh s) ≤ free_frames

abbrev pub PairsTouchFew : Type 0
PairsTouchFew = (sh : Shape) (R : List Record) (r s : Record) → AreAllowed sh (s ∷ r ∷ R) → PairTouchesFew sh R r s
