-- The slot that a shrink comes to next, and where it stops, by the records B before its first event and the records S then. Oracle
-- Database Administrator's Guide, "Shrinking Database Segments Online"; the order in which rows move, and that a row with an
-- active writer is skipped, is this engine's own.
use Rattle.std.specs.Prelude.{◌≡◌, ◌⊎◌, ℕ, ◌≤◌, ◌<◌, true, false, cond, leb, List, [], ◌∷◌, length, Some, None}
use Rattle.seg_words.specs.Types.{Shape, writer_has_ended}
use Rattle.redo_model.specs.Records.{Record, Move, MoveRecord}
use Rattle.redo_model.specs.Model.{prefix, ended_in, first_taker}
use Rattle.redo_laws.specs.Added.{names_slot}
use Rattle.shrink_laws.specs.declared.skip.Skip.{Skip}
use Rattle.shrink_laws.specs.Stops.{row_image, IsFull, is_skipped, IsPassed, IsAt, last_formatted, LeadsDown}

-- Each slot at a position above n that holds something was passed, whether its row may be moved or not: so one whose row's
-- writer is active was skipped, or was named since.
abbrev pub FullPassed : Shape → List Record → List Record → ℕ → List Skip → ℕ → Type 0
FullPassed sh B S o skips n = (i b k : ℕ) → n < i → i ≤ last_formatted sh B o → IsAt sh S o i b → IsFull S b k → IsPassed (length B) S skips b k

-- it has come to slot k of block d at this position, which holds something and wasn't skipped: each greater one of the block that
-- holds something was, and each above was passed
pub record HasCome (sh : Shape) (B S : List Record) (o : ℕ) (skips : List Skip) (place d k : ℕ) : Type 0 where
  pub here : IsAt sh S o place d
  pub not_first : 1 ≤ place
  pub within : place ≤ last_formatted sh B o
  pub full : IsFull S d k
  pub fresh : is_skipped skips d k ≡ false
  pub greater : (j : ℕ) → k < j → IsFull S d j → is_skipped skips d j ≡ true
  pub higher : FullPassed sh B S o skips place

-- the row of a slot at this position has a place to go to: its body below, if it is a Head, or a block below that takes it
abbrev pub MayGo : Shape → List Record → ℕ → ℕ → ℕ → ℕ → Type 0
MayGo sh S o place d k = LeadsDown sh S o place d k ⊎ ((b : ℕ) × (first_taker sh S o place (length (row_image S d k).bytes) ≡ Some b))

-- it has come to a slot whose row could move, since its last writer has ended, but has no place to go to
pub record NothingFits (sh : Shape) (B S : List Record) (o : ℕ) (skips : List Skip) (d k : ℕ) : Type 0 where
  pub place : ℕ
  pub come : HasCome sh B S o skips place d k
  pub over : writer_has_ended (ended_in S) (row_image S d k).writer ≡ true
  pub not_down : LeadsDown sh S o place d k → ⊥
  pub none_takes : first_taker sh S o place (length (row_image S d k).bytes) ≡ None

-- the newest of these skips was told when there were at most n records
abbrev pub AreToldBy : ℕ → List Skip → Type 0
AreToldBy n [] = Unit {0}
AreToldBy n (s ∷ ss) = s.records ≤ n

-- a slot that was skipped, after these that were skipped before it: it had come to it then
pub record SkippedAt (sh : Shape) (B S : List Record) (o : ℕ) (before : List Skip) (s : Skip) : Type 0 where
  pub order : AreToldBy s.records before
  pub place : ℕ
  pub come : HasCome sh B (prefix S s.records) o before place s.block s.slot

-- each
abbrev pub AreSkippedAt : Shape → List Record → List Record → ℕ → List Skip → Type 0
AreSkippedAt sh B S o [] = Unit {0}
AreSkippedAt sh B S o (s ∷ ss) = SkippedAt sh B S o ss s × AreSkippedAt sh B S o ss

-- those of the skips that had been told when there were n records
abbrev pub skips_by : ℕ → List Skip → List Skip
skips_by n [] = []
skips_by n (s ∷ ss) = cond (leb s.records n) (s ∷ ss) (skips_by n ss)

-- a Move after the records R moved the row of a slot to which it had come, whose last writer had ended
pub record MovedAt (sh : Shape) (B R : List Record) (o : ℕ) (skips : List Skip) (m : MoveRecord) : Type 0 where
  pub place : ℕ
  pub block : ℕ
  pub slot : ℕ
  pub come : HasCome sh B R o skips place block slot
  pub over : writer_has_ended (ended_in R) (row_image R block slot).writer ≡ true
  pub names : names_slot m.parts block slot ≡ true

-- each Move of the table since the records B did
abbrev pub AreMovedAt : Shape → List Record → ℕ → List Skip → List Record → Type 0
AreMovedAt sh B o skips [] = Unit {0}
AreMovedAt sh B o skips (Move m ∷ R) = (m.obj ≡ o → length B ≤ length R → MovedAt sh B R o (skips_by (length R) skips) m) × AreMovedAt sh B o skips R
AreMovedAt sh B o skips (_ ∷ R) = AreMovedAt sh B o skips R
