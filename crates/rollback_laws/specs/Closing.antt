-- What an opening makes of a list of records: each transaction that is active is taken back. Oracle Database Concepts, "Instance
-- Recovery": the changes of transactions that had not committed are rolled back. That it is done in rising number, each wholly
-- before the next, and ends with an Ended of each, is this engine's own.
use Rattle.std.specs.Prelude.{◌≡◌, ℕ, zero, suc, ◌<◌, ◌≤◌, true, false, cond, List, ◌∷◌, length, Some, None}
use Rattle.seg_words.specs.Types.{Shape}
use Rattle.redo_model.specs.Records.{Record, Back, Ended, BackRecord, EndedRecord}
use Rattle.redo_model.specs.Model.{Step, Extends, commits_of, txn_count, is_active, standing, newest_of, table_at, IsLawful}
use Rattle.open_laws.specs.Backs.{own_steps}
use Rattle.open_laws.specs.Begins.{active_count}
use Rattle.end_laws.specs.Types.{MayEnd, ended_of, backed}

-- the newest n of t's standing records taken back, one by one
abbrev pub backed_times : ℕ → List Record → ℕ → List Record
backed_times zero R t = R
backed_times (suc n) R t = backed_times n (backed R t) t

-- all of them
abbrev pub all_backed : List Record → ℕ → List Record
all_backed R t = backed_times (length (own_steps R t)) R t

-- the whole rollback of t
abbrev pub rolled_back : List Record → ℕ → List Record
rolled_back R t = Ended (ended_of (all_backed R t) t) ∷ all_backed R t

-- of the transactions numbered below n, those that are active in R are rolled back, the least first
abbrev pub closed_below : List Record → ℕ → List Record
closed_below R zero = R
closed_below R (suc n) = cond (is_active R n) (rolled_back (closed_below R n) n) (closed_below R n)

-- all of them: the list that an opening makes
abbrev pub closed : List Record → List Record
closed R = closed_below R (suc (txn_count R))

-- ---- what it is

-- R and after it Backs and Ended alone
pub data AddsEnds (R : List Record) : List Record → Type 0 where
  adds_none : AddsEnds R R
  adds_back : {Q : List Record} (k : BackRecord) → AddsEnds R Q → AddsEnds R (Back k ∷ Q)
  adds_ended : {Q : List Record} (e : EndedRecord) → AddsEnds R Q → AddsEnds R (Ended e ∷ Q)

-- the same commits, and each table as it was after each of them
pub record SameTables (R Q : List Record) : Type 0 where
  pub commits : commits_of Q ≡ commits_of R
  pub tables : (o s n : ℕ) → table_at Q o s n ≡ table_at R o s n

-- The list is lawful, no transaction is active in it, and it is R with Backs and Ended alone, so that the tables stay.
pub record Closes (sh : Shape) (R : List Record) : Type 0 where
  pub lawful : IsLawful sh (closed R)
  pub none_active : (t : ℕ) → is_active (closed R) t ≡ false
  pub only : AddsEnds R (closed R)
  pub extends : Extends R (closed R)
  pub same : SameTables R (closed R)

abbrev pub ListsClose : Type 0
ListsClose = (sh : Shape) (R : List Record) → IsLawful sh R → Closes sh R

-- where none is active nothing is added
abbrev pub ClosedStay : Type 0
ClosedStay = (R : List Record) → ((t : ℕ) → is_active R t ≡ false) → closed R ≡ R

-- ---- one step after the other

-- t is active, and none below it
pub record IsFirst (R : List Record) (t : ℕ) : Type 0 where
  pub active : is_active R t ≡ true
  pub least : (u : ℕ) → u < t → is_active R u ≡ false

-- A step of the rollback of the least active transaction leads to the same list. It has one record fewer to take back then; with
-- none left it is taken back wholly.
pub record StepCloses (R : List Record) (t : ℕ) : Type 0 where
  pub extends : Extends R (backed R t)
  pub back : closed (backed R t) ≡ closed R
  pub still_first : IsFirst (backed R t) t
  pub rest : all_backed (backed R t) t ≡ all_backed R t
  pub fewer : (st : Step) → newest_of (standing R) t ≡ Some st → length (own_steps R t) ≡ suc (length (own_steps (backed R t) t))
  pub none_left : length (own_steps R t) ≡ 0 → newest_of (standing R) t ≡ None
  pub whole : newest_of (standing R) t ≡ None → all_backed R t ≡ R

abbrev pub StepsClose : Type 0
StepsClose = (sh : Shape) (R : List Record) (t : ℕ) → IsLawful sh R → IsFirst R t → StepCloses R t

-- and so does the whole of it, which is lawful, leaves the others as they were, and one fewer active
pub record RollbackCloses (sh : Shape) (R : List Record) (t : ℕ) : Type 0 where
  pub may_end : MayEnd (all_backed R t) t
  pub lawful : IsLawful sh (rolled_back R t)
  pub extends : Extends R (rolled_back R t)
  pub closes : closed (rolled_back R t) ≡ closed R
  pub own : is_active (rolled_back R t) t ≡ false
  pub others : (u : ℕ) → (u ≡ t → ⊥) → is_active (rolled_back R t) u ≡ is_active R u
  pub fewer : active_count R ≡ suc (active_count (rolled_back R t))

abbrev pub RollbacksClose : Type 0
RollbacksClose = (sh : Shape) (R : List Record) (t : ℕ) → IsLawful sh R → IsFirst R t → RollbackCloses sh R t

-- ---- how far it is

-- a transaction has no more records to take back than the list has records, and a list with a count of 0 has none that is active
pub record Ahead (R : List Record) : Type 0 where
  pub own : (t : ℕ) → length (own_steps R t) ≤ length R
  pub none : active_count R ≡ 0 → (t : ℕ) → is_active R t ≡ false

abbrev pub AheadIsCounted : Type 0
AheadIsCounted = (sh : Shape) (R : List Record) → IsLawful sh R → Ahead R

-- ---- an opening that was cut off

-- Q is R and a first part of what an opening adds to it: it is lawful, has the same tables, and an opening of it gives what the
-- opening of R would have given
pub record GoesOn (sh : Shape) (R Q : List Record) : Type 0 where
  pub lawful : IsLawful sh Q
  pub closes : closed Q ≡ closed R
  pub same : SameTables R Q

abbrev pub ClosingGoesOn : Type 0
ClosingGoesOn = (sh : Shape) (R Q : List Record) → IsLawful sh R → Extends R Q → Extends Q (closed R) → GoesOn sh R Q
