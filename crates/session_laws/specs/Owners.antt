-- What is true of the sessions' transactions in every list of allowed records, and what a record of one session leaves of
-- another.
use Rattle.std.specs.Prelude.{◌≡◌, ◌≢◌, ℕ, ◌≤◌, Bool, true, false, List, ◌∷◌, Option, Some, None}
use Rattle.seg_words.specs.Types.{Shape}
use Rattle.redo_model.specs.Records.{Record}
use Rattle.redo_model.specs.Model.{effect_of, txn_count, is_active, last_of_session, has_open, AreAllowed}
use Rattle.redo_laws.specs.Stays.{IsNotOf}
use Rattle.redo_laws.specs.Views.{IsOpen}
use Rattle.session_laws.specs.Sessions.{own_of, own_number, own_backed, own_rows, own_begins, IsOf}

abbrev pub is_one : Option ℕ → Bool
is_one None = false
is_one (Some t) = true

-- a session whose active transaction t is
pub record SessionOf (R : List Record) (t : ℕ) : Type 0 where
  pub session : ℕ
  pub from : 1 ≤ session
  pub to : session ≤ 64
  pub own : own_of R session ≡ Some t

-- Of one session: its transaction is active, is the last that it began, and is numbered from 1 to the count of those that
-- began; it has one exactly where 'has an active transaction' says so.
pub record OwnOf (R : List Record) (w : ℕ) : Type 0 where
  pub active : (t : ℕ) → own_of R w ≡ Some t → is_active R t ≡ true
  pub last : (t : ℕ) → own_of R w ≡ Some t → last_of_session R w ≡ Some t
  pub least : (t : ℕ) → own_of R w ≡ Some t → 1 ≤ t
  pub most : (t : ℕ) → own_of R w ≡ Some t → t ≤ txn_count R
  pub from : (t : ℕ) → own_of R w ≡ Some t → 1 ≤ w
  pub to : (t : ℕ) → own_of R w ≡ Some t → w ≤ 64
  pub opened : has_open R w ≡ is_one (own_of R w)
  pub is_open : IsOpen R (own_number R w)

-- a transaction is of one session, and each active one is of a session
pub record SessionsOwn (R : List Record) : Type 0 where
  pub each : (w : ℕ) → OwnOf R w
  pub one : (v w t : ℕ) → own_of R v ≡ Some t → own_of R w ≡ Some t → v ≡ w
  pub whose : (t : ℕ) → is_active R t ≡ true → SessionOf R t

abbrev pub SessionsOwnTransactions : Type 0
SessionsOwnTransactions = (sh : Shape) (R : List Record) → AreAllowed sh R → SessionsOwn R

-- a session of which the record is
pub record HasSession (R : List Record) (r : Record) : Type 0 where
  pub session : ℕ
  pub from : 1 ≤ session
  pub to : session ≤ 64
  pub of : IsOf R session r

abbrev pub RecordsHaveSessions : Type 0
RecordsHaveSessions = (sh : Shape) (R : List Record) (r : Record) → AreAllowed sh (r ∷ R) → HasSession R r

-- a record leaves what session w has and has done
pub record Leaves (R : List Record) (r : Record) (w : ℕ) : Type 0 where
  pub own : own_of (r ∷ R) w ≡ own_of R w
  pub rows : own_rows (r ∷ R) w ≡ own_rows R w
  pub begins : own_begins (r ∷ R) w ≡ own_begins R w
  pub backed : own_backed (r ∷ R) w ≡ own_backed R w
  pub not_of : IsNotOf (effect_of r) (own_number R w)

-- a record of another session does
abbrev pub OthersLeaveSessions : Type 0
OthersLeaveSessions = (sh : Shape) (R : List Record) (r : Record) (v w : ℕ) → AreAllowed sh R → v ≢ w → IsOf R v r → Leaves R r w
