-- How full the blocks of a table under its high mark are, counted position by position. Oracle: DBMS_SPACE.SPACE_USAGE.
use Rattle.std.specs.Prelude.{◌≡◌, ℕ, zero, suc, ◌+◌, ◌≤◌, Bool, not, ◌&&◌, cond, eqb, List, length, slice_get, Option, Some, None, MatchOption}
use Rattle.seg_words.specs.Types.{Class as BlockClass, Unformatted, Full, Fs1, Fs2, Fs3, Fs4, Shape, class_code}
use Rattle.disk_model.specs.Crash.{Meaning}
use Rattle.redo_model.specs.Records.{Record}
use Rattle.redo_model.specs.Model.{extents_of, data_blocks, low_mark, high_mark, is_formatted, kept_class, code_of, IsTable}
use Rattle.usage_laws.specs.Types.{calls_for_class}
use Rattle.data_places.specs.declared.place.Place.{Place}
use Rattle.data_places.specs.Places.{IsPlace, data_count}
use Rattle.segment_read.specs.declared.segment.Segment.{Segment}
use Rattle.segment_read.specs.Segments.{IsSegment}
use Rattle.store_core.specs.Store.{Held, IsTrue}
use Rattle.space_usage.specs.declared.walking.Coded.{Coded}
use Rattle.history_text.specs.declared.outcome.Usage.{Usage}

-- how many of the first n of these blocks pass

abbrev pub passes_at : (ℕ → Bool) → Option ℕ → ℕ
passes_at p None = 0
passes_at p (Some b) = cond (p b) 1 0

abbrev pub count_to : (ℕ → Bool) → List ℕ → ℕ → ℕ
count_to p bs zero = 0
count_to p bs (suc n) = count_to p bs n + passes_at p (slice_get bs n)

-- a formatted block with this kept class
abbrev pub keeps : Shape → List Record → BlockClass → ℕ → Bool
keeps sh R c b = is_formatted sh R b && eqb (class_code (kept_class R b)) (class_code c)

-- a formatted block whose kept class isn't its class
abbrev pub is_inexact : Shape → List Record → ℕ → ℕ → Bool
is_inexact sh R o b = is_formatted sh R b && calls_for_class R o b

-- the blocks of table o at its first n positions, its marks and its extents
pub record IsUsageTo (sh : Shape) (R : List Record) (o n : ℕ) (u : Usage) : Type 0 where
  pub unformatted : u.unformatted ≡ count_to (λ b. not (is_formatted sh R b)) (data_blocks sh R o) n
  pub fs1 : u.fs1 ≡ count_to (keeps sh R Fs1) (data_blocks sh R o) n
  pub fs2 : u.fs2 ≡ count_to (keeps sh R Fs2) (data_blocks sh R o) n
  pub fs3 : u.fs3 ≡ count_to (keeps sh R Fs3) (data_blocks sh R o) n
  pub fs4 : u.fs4 ≡ count_to (keeps sh R Fs4) (data_blocks sh R o) n
  pub full : u.full ≡ count_to (keeps sh R Full) (data_blocks sh R o) n
  pub low : u.low ≡ low_mark R o
  pub high : u.high ≡ high_mark R o
  pub extents : u.extents ≡ length (extents_of R o)

-- those under the high mark
abbrev pub IsUsage : Shape → List Record → ℕ → Usage → Type 0
IsUsage sh R o u = IsUsageTo sh R o (high_mark R o) u

-- how many of them are inexact
abbrev pub inexact_count : Shape → List Record → ℕ → ℕ
inexact_count sh R o = count_to (is_inexact sh R o) (data_blocks sh R o) (high_mark R o)

-- one more block, with this code
abbrev pub with_code : Usage → ℕ → Usage
with_code u code = record {
  unformatted = u.unformatted + cond (eqb code (class_code Unformatted)) 1 0;
  fs1 = u.fs1 + cond (eqb code (class_code Fs1)) 1 0;
  fs2 = u.fs2 + cond (eqb code (class_code Fs2)) 1 0;
  fs3 = u.fs3 + cond (eqb code (class_code Fs3)) 1 0;
  fs4 = u.fs4 + cond (eqb code (class_code Fs4)) 1 0;
  full = u.full + cond (eqb code (class_code Full)) 1 0;
  low = u.low;
  high = u.high;
  extents = u.extents;
}

-- no count is greater
pub record AreAtMost (n : ℕ) (u : Usage) : Type 0 where
  pub unformatted : u.unformatted ≤ n
  pub fs1 : u.fs1 ≤ n
  pub fs2 : u.fs2 ≤ n
  pub fs3 : u.fs3 ≤ n
  pub fs4 : u.fs4 ≤ n
  pub full : u.full ≤ n

-- ---- the walk

-- what is read of a true store with the records R: its shape and the segment of table o
pub record Knows {D : Type 0} (meaning : Meaning D) (R : List Record) (o : ℕ) (s : Held D) (sh : Shape) (segment : Segment) : Type 0 where
  pub holds : IsTrue meaning R s
  pub table : IsTable R o
  pub shape : sh ≡ s.shape
  pub segment_is : IsSegment s.shape R o segment

-- the data block at a position of table o, with its code
pub record IsCoded (sh : Shape) (R : List Record) (o position : ℕ) (c : Coded) : Type 0 where
  pub here : slice_get (data_blocks sh R o) position ≡ Some c.dba
  pub code : c.code ≡ code_of sh R c.dba

-- the place of a position, where the table has so many data blocks
abbrev pub PlaceOf : Shape → ℕ → ℕ → Option Place → Type 0
PlaceOf sh extents position place = MatchOption place (data_count sh extents ≤ position) (λ p. IsPlace sh extents p position)
