-- A session without an active transaction can always begin one: at most 64 are active, each of a session, and the table has 96
-- entries.
use Rattle.std.specs.Prelude.{◌≡◌, ℕ, zero, suc, ◌≤◌, Bool, false, cond, List}
use Rattle.seg_words.specs.Types.{Shape, MOST_SESSIONS}
use Rattle.redo_model.specs.Records.{Record, Begin, BeginRecord}
use Rattle.redo_model.specs.Model.{txn_count, is_active, has_open, TakesEntry, AreAllowed, IsAllowed, IsLawful}

-- at how many of the numbers below n it is so
abbrev pub count_below : (ℕ → Bool) → ℕ → ℕ
count_below p zero = 0
count_below p (suc n) = cond (p n) (suc (count_below p n)) (count_below p n)

-- how many transactions are active: they are numbered from 1 to the count of those that began
abbrev pub active_count : List Record → ℕ
active_count R = count_below (is_active R) (suc (txn_count R))

-- an entry that a Begin takes, and the control number after it
pub record EntryToTake (R : List Record) : Type 0 where
  pub entry : ℕ
  pub control : ℕ
  pub takes : TakesEntry R entry control

pub record FewActive (R : List Record) : Type 0 where
  pub few : active_count R ≤ MOST_SESSIONS
  pub take : EntryToTake R

abbrev pub FewAreActive : Type 0
FewAreActive = (sh : Shape) (R : List Record) → AreAllowed sh R → FewActive R

-- a Begin of the session that is allowed
pub record BeginOf (sh : Shape) (R : List Record) (n : ℕ) : Type 0 where
  pub begin : BeginRecord
  pub session : begin.session ≡ n
  pub allowed : IsAllowed sh R (Begin begin)

abbrev pub SessionsCanBegin : Type 0
SessionsCanBegin = (sh : Shape) (R : List Record) (n : ℕ) → IsLawful sh R → 1 ≤ n → n ≤ MOST_SESSIONS → has_open R n ≡ false → BeginOf sh R n
