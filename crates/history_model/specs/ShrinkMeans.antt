-- What an accepted shrink means. Oracle Database Administrator's Guide, "Shrinking Database Segments Online".
use Rattle.std.specs.Prelude.{◌≡◌, ◌⊎◌, ℕ, suc, ◌≤◌, ◌+◌, false, cond, eqb, List, [], ◌∷◌, length, Some}
use Rattle.seg_words.specs.Types.{Shape}
use Rattle.redo_model.specs.Records.{Record, Move, Lower, LowerRecord}
use Rattle.redo_model.specs.Model.{prefix, table_named, Extent, extents_of, extent_at, is_vacant, high_mark}
use Rattle.redo_laws.specs.Since.{any_since}
use Rattle.shrink_laws.specs.declared.skip.Skip.{Skip}
use Rattle.shrink_laws.specs.Grown.{lowers}
use Rattle.shrink_laws.specs.Stops.{SkipsStand}
use Rattle.history_text.specs.declared.outcome.Stop.{Stop}
use Rattle.history_text.specs.declared.outcome.Stop.TheVariants.{NoFit, Bottom}
use Rattle.history_model.specs.Spans.{Span}
use Rattle.history_model.specs.SoFar.{IsUnlowered}
use Rattle.history_model.specs.Stopping.{FullPassed, NothingFits, AreSkippedAt, AreMovedAt}

abbrev pub moves_after : Record → ℕ → ℕ → ℕ
moves_after (Move m) o n = cond (eqb m.obj o) (suc n) n
moves_after _ o n = n

-- how many Move records of table o
abbrev pub move_count : List Record → ℕ → ℕ
move_count [] o = 0
move_count (r ∷ R) o = moves_after r o (move_count R o)

-- where it stopped, after the records S: at a row that no block below takes, or at the first position
abbrev pub StopIs : Shape → List Record → List Record → ℕ → List Skip → Stop → Type 0
StopIs sh B S o skips (NoFit at) = NothingFits sh B S o skips at.dba at.slot
StopIs sh B S o skips Bottom = FullPassed sh B S o skips 0

-- A shrink: the number of Moves of the table since it began, none of them after it stopped, each of a row to which it had come;
-- the number of slots that it skipped, each of which held a row with that active writer as it came to it; where it stopped.
pub record MovesMean (sh : Shape) (x : Span) (name : List ℕ) (moved skipped : ℕ) (stop : Stop) (skips : List Skip) (stopped obj : ℕ) : Type 0 where
  pub table : table_named x.begun name ≡ Some obj
  pub from : length x.begun ≤ stopped
  pub to : stopped ≤ length x.ended
  pub moves : move_count x.ended obj ≡ move_count x.begun obj + moved
  pub none_after : move_count x.ended obj ≡ move_count (prefix x.ended stopped) obj
  pub count : skipped ≡ length skips
  pub skipped_so : SkipsStand x.begun (prefix x.ended stopped) skips
  pub skipped_at : AreSkippedAt sh x.begun (prefix x.ended stopped) obj skips
  pub moved_at : AreMovedAt sh x.begun obj skips (prefix x.ended stopped)
  pub stops : StopIs sh x.begun (prefix x.ended stopped) obj skips stop

-- one that only compacts: no Lower of the table is among the records
pub record CompactMeans (sh : Shape) (x : Span) (name : List ℕ) (moved skipped : ℕ) (stop : Stop) (skips : List Skip) (stopped : ℕ) : Type 0 where
  pub obj : ℕ
  pub moves : MovesMean sh x name moved skipped stop skips stopped obj
  pub unlowered : IsUnlowered x obj

-- at the end stands the Lower that released so many extents, the only one of the table since the records B
pub record EndsLower (B E : List Record) (o released : ℕ) : Type 0 where
  pub before : List Record
  pub lower : LowerRecord
  pub table : lower.obj ≡ o
  pub count : released ≡ length lower.released
  pub ends : E ≡ Lower lower ∷ before
  pub only : any_since (lowers o) (length B) before ≡ false

-- the last extent of the table is the first or isn't vacant
pub record LastStays (sh : Shape) (E : List Record) (o : ℕ) : Type 0 where
  pub index : ℕ
  pub extent : Extent
  pub is_last : length (extents_of E o) ≡ suc index
  pub at : extent_at (extents_of E o) index ≡ Some extent
  pub stays : (index ≡ 0) ⊎ (is_vacant sh E index extent.number ≡ false)

-- nothing is released, since the last extent stays
pub record EndsUnlowered (sh : Shape) (x : Span) (o released : ℕ) : Type 0 where
  pub none : released ≡ 0
  pub stays : LastStays sh x.ended o
  pub unlowered : IsUnlowered x o

-- one that also lowers: the extents that it released, or none where the last one stays, and the high mark then
pub record ShrinkMeans (sh : Shape) (x : Span) (name : List ℕ) (moved skipped : ℕ) (stop : Stop) (released high : ℕ) (skips : List Skip) (stopped : ℕ) : Type 0 where
  pub obj : ℕ
  pub moves : MovesMean sh x name moved skipped stop skips stopped obj
  pub lowered : EndsLower x.begun x.ended obj released ⊎ EndsUnlowered sh x obj released
  pub high_is : high ≡ high_mark x.ended obj
