-- A shrink from its first event to its entry: it begins, skips and moves, and what its work says as it stops is what its entry
-- means, with or without a Lower.
use Rattle.std.specs.Prelude.{◌≡◌, ℕ, suc, ◌+◌, ◌*◌, ◌<◌, true, Bool, List, [], ◌∷◌, length, drop, Some}
use Rattle.seg_words.specs.Types.{Shape, Rowid, writer_has_ended, UNDO_PART_SIZE}
use Rattle.redo_model.specs.Records.{Record, Lower, LowerRecord}
use Rattle.redo_model.specs.Model.{ended_in, extents_of, kept_length, high_mark, table_named, HasMovement}
use Rattle.shrink_laws.specs.declared.skip.Skip.{Skip}
use Rattle.shrink_laws.specs.Stops.{row_image, last_formatted, StopsAt, StopsAtBottom}
use Rattle.shrink_laws.specs.Cursor.{CursorStands, Cleared, Finds, StepSkips, StepMoves, StepStops, skip_of}
use Rattle.change_laws.specs.Spots.{IsFull as IsUndoFull}
use Rattle.script_text.specs.declared.statement.Statement.TheVariants as asked
use Rattle.history_text.specs.declared.outcome.Stop.{Stop}
use Rattle.history_text.specs.declared.outcome.Stop.TheVariants.{NoFit, Bottom}
use Rattle.history_text.specs.declared.refusal.Refusal.TheVariants as why
use Rattle.history_model.specs.Spans.{Span}
use Rattle.history_model.specs.Passing.{FirstPass}
use Rattle.history_model.specs.Stopping.{HasCome, MayGo}
use Rattle.history_model.specs.Causes.{HasMoveParts}
use Rattle.history_model.specs.ShrinkMeans.{StopIs, CompactMeans, LastStays, ShrinkMeans}
use Rattle.history_laws.specs.Working.{grown, later, MoveWork, ShrinkStands, StoppedWork, StoppedStands}
use Rattle.history_laws.specs.Refusals.{IsRefusedSo}

-- ---- from its first event on

-- its cursor begins at the last formatted position
abbrev pub begun_work : Shape → List Record → ℕ → MoveWork
begun_work sh B o = record { obj = o; cursor = last_formatted sh B o; skips = []; moved = 0 }

abbrev pub ShrinksBegin : Type 0
ShrinksBegin = (sh : Shape) (x : Span) (name : List ℕ) (o : ℕ) → x.ended ≡ x.begun → table_named x.begun name ≡ Some o → HasMovement x.begun o → ShrinkStands sh x name (begun_work sh x.begun o)

-- a slot is skipped
abbrev pub skipped_work : List Record → MoveWork → ℕ → ℕ → ℕ → ℕ → MoveWork
skipped_work R k place d j t = record { obj = k.obj; cursor = place; skips = skip_of R d j t ∷ k.skips; moved = k.moved }

abbrev pub ShrinksSkip : Type 0
ShrinksSkip = (sh : Shape) (x : Span) (name : List ℕ) (k : MoveWork) (place d j t : ℕ) → StepSkips sh x.ended k.obj k.skips k.cursor place d j t → ShrinkStands sh x name k → ShrinkStands sh x name (skipped_work x.ended k place d j t)

-- a row is moved
abbrev pub moved_work : MoveWork → ℕ → MoveWork
moved_work k place = record { obj = k.obj; cursor = place; skips = k.skips; moved = suc k.moved }

abbrev pub ShrinksMove : Type 0
ShrinksMove = (sh : Shape) (x : Span) (R : List Record) (name : List ℕ) (k : MoveWork) (place d j : ℕ) → StepMoves sh x.ended R k.obj k.skips k.cursor place d j → ShrinkStands sh x name k → ShrinkStands sh (later x R) name (moved_work k place)

-- where the cursor comes to a slot
abbrev pub CursorsCome : Type 0
CursorsCome = (sh : Shape) (B R : List Record) (o : ℕ) (skips : List Skip) (cursor place d j : ℕ) → Finds sh R o skips cursor place d j → CursorStands sh B R o skips cursor → HasCome sh B R o skips place d j

-- no block takes its row: it stops there
abbrev pub CursorsStop : Type 0
CursorsStop = (sh : Shape) (B R : List Record) (o : ℕ) (skips : List Skip) (cursor place : ℕ) (at : Rowid) → StepStops sh R o skips cursor place at.dba at.slot → CursorStands sh B R o skips cursor → StopIs sh B R o skips (NoFit at)

-- or it comes to none
abbrev pub CursorsPass : Type 0
CursorsPass = (sh : Shape) (B R : List Record) (o : ℕ) (skips : List Skip) (cursor : ℕ) → Cleared sh R o skips 0 cursor → CursorStands sh B R o skips cursor → StopIs sh B R o skips Bottom

-- either is a right place to stop: each slot above that could move was passed
pub record StopIsRight (sh : Shape) (B R : List Record) (o : ℕ) (skips : List Skip) : Type 0 where
  pub at : (p : Rowid) → StopIs sh B R o skips (NoFit p) → StopsAt sh B R o skips p.dba p.slot
  pub bottom : StopIs sh B R o skips Bottom → StopsAtBottom sh B R o skips

abbrev pub StopsAreRight : Type 0
StopsAreRight = (sh : Shape) (B R : List Record) (o : ℕ) (skips : List Skip) → StopIsRight sh B R o skips

-- the row that it comes to could move, but its undo doesn't fit
pub record StepSpent (sh : Shape) (R : List Record) (o : ℕ) (skips : List Skip) (cursor place d j : ℕ) (hs : List (ℕ × ℕ)) : Type 0 where
  pub finds : Finds sh R o skips cursor place d j
  pub over : writer_has_ended (ended_in R) (row_image R d j).writer ≡ true
  pub goes : MayGo sh R o place d j
  pub parts : ℕ
  pub parts_are : HasMoveParts sh R o place d j parts
  pub full : IsUndoFull sh R (parts * UNDO_PART_SIZE + length (row_image R d j).bytes) hs

abbrev pub ShrinksAreSpent : Type 0
ShrinksAreSpent =
    (sh : Shape) (x : Span) (name : List ℕ) (compact : Bool) (k : MoveWork) (place d j : ℕ) (hs : List (ℕ × ℕ)) → FirstPass sh x (asked.Shrink name compact) → StepSpent sh x.ended k.obj k.skips k.cursor place d j hs → ShrinkStands sh x name k
    → IsRefusedSo sh x (asked.Shrink name compact) (why.UndoFull hs)

-- ---- from its stop on

-- it stops as it stands
abbrev pub stopped_now : Span → MoveWork → Stop → StoppedWork
stopped_now x k stop = record { obj = k.obj; skips = k.skips; moved = k.moved; stopped = length x.ended; stop = stop }

abbrev pub ShrinksStop : Type 0
ShrinksStop = (sh : Shape) (x : Span) (name : List ℕ) (k : MoveWork) (stop : Stop) → StopIs sh x.begun x.ended k.obj k.skips stop → ShrinkStands sh x name k → StoppedStands sh x name (stopped_now x k stop)

-- one that only compacts is at its end
abbrev pub CompactsMean : Type 0
CompactsMean = (sh : Shape) (x : Span) (name : List ℕ) (k : StoppedWork) → StoppedStands sh x name k → CompactMeans sh x name k.moved (length k.skips) k.stop k.skips k.stopped

-- another one ends with a Lower, or where the last extent stays
abbrev pub LowersMean : Type 0
LowersMean =
    (sh : Shape) (x : Span) (name : List ℕ) (k : StoppedWork) (l : LowerRecord) → l.obj ≡ k.obj → StoppedStands sh x name k
    → ShrinkMeans sh (grown x (Lower l)) name k.moved (length k.skips) k.stop (length l.released) (high_mark (Lower l ∷ x.ended) k.obj) k.skips k.stopped

abbrev pub StaysMean : Type 0
StaysMean = (sh : Shape) (x : Span) (name : List ℕ) (k : StoppedWork) → LastStays sh x.ended k.obj → StoppedStands sh x name k → ShrinkMeans sh x name k.moved (length k.skips) k.stop 0 (high_mark x.ended k.obj) k.skips k.stopped

-- it stays where the longest suffix of vacant extents after the first is empty
abbrev pub LastExtentsStay : Type 0
LastExtentsStay = (sh : Shape) (R : List Record) (o : ℕ) → 0 < length (extents_of R o) → suc (kept_length sh R 1 (drop 1 (extents_of R o))) ≡ length (extents_of R o) → LastStays sh R o
