-- The start of a statement and its entry, as the history tells them.
use Rattle.std.specs.Prelude.{◌≡◌, ◌≢◌, ℕ, suc, ◌≤◌, cond, ltb, List, ◌∷◌, length, Option, Some, None}
use Rattle.disk_model.specs.Crash.{Meaning}
use Rattle.redo_model.specs.Records.{Record}
use Rattle.history_text.specs.declared.entry.Entry.{Entry}
use Rattle.history_text.specs.declared.outcome.Outcome.{Outcome}
use Rattle.history_text.specs.declared.outcome.Outcome.TheVariants as outcome
use Rattle.history_model.specs.declared.history.Kept.{Kept}
use Rattle.history_model.specs.declared.history.Start.{Start}
use Rattle.history_model.specs.declared.history.HistoryItem.{HistoryItem}
use Rattle.history_model.specs.declared.history.HistoryItem.TheVariants as item
use Rattle.store_core.specs.Store.{Held}
use Rattle.session_core.specs.declared.session.Doing.TheVariants as told
use Rattle.session_core.specs.declared.turned.Turned.{Turned}
use Rattle.session_core.specs.declared.turned.Turned.TheVariants as turned
use Rattle.session_core.specs.declared.turned.Acted.{Acted}
use Rattle.session_step.specs.declared.session.Session.{Session as Told}

-- ---- the start

-- nothing is under way, and all is told
pub record IsDone (statements : ℕ) (s : Told) : Type 0 where
  pub waits : s.doing ≡ told.Waiting
  pub all_told : statements ≤ s.told
  pub none : s.own ≡ None

-- a start is told, with so many records
pub record IsStarted (who statements records : ℕ) (s t : Told) (T U : List HistoryItem) : Type 0 where
  pub waits : s.doing ≡ told.Waiting
  pub more : statements ≤ s.told → s.own ≡ None → ⊥
  pub now : t ≡ record { told = s.told; begins = records; doing = told.Waiting; own = s.own }
  pub tells : U ≡ item.Started (record { session = who; begins = records }) ∷ T

-- what is under way goes on
pub record GoesOnWith (s t : Told) (T U : List HistoryItem) : Type 0 where
  pub busy : s.doing ≢ told.Waiting
  pub now : t ≡ s
  pub tells : U ≡ T

-- ---- the entry

abbrev pub entry_ordinal : ℕ → ℕ → Option ℕ
entry_ordinal statements n = cond (ltb n statements) (Some (suc n)) None

-- the statement goes on, or its entry is told
abbrev pub Finishes : ℕ → ℕ → ℕ → ℕ → Acted → Told → Told → List HistoryItem → List HistoryItem → Type 0
Finishes who statements records moment a s t T U = FinishesAs who statements records moment a.turned a.own s t T U
  where
    FinishesAs : ℕ → ℕ → ℕ → ℕ → Turned → Option ℕ → Told → Told → List HistoryItem → List HistoryItem → Type 0
    FinishesAs who statements records moment (turned.On d) own s t T U = (t ≡ record { told = s.told; begins = s.begins; doing = d; own = own }) × (U ≡ T)
    FinishesAs who statements records moment (turned.Over outcome k) own s t T U =
        (t ≡ record { told = suc s.told; begins = s.begins; doing = told.Waiting; own = own })
        × (U ≡ item.Told (record { session = who; ordinal = entry_ordinal statements s.told; begins = s.begins; ends = records; moment = moment; outcome = outcome }) k ∷ T)

-- ---- what is told in one event

-- a start or none
pub data Begins (T : List HistoryItem) : List HistoryItem → Type 0 where
  begins_none : Begins T T
  begins_one : (s : Start) → Begins T (item.Started s ∷ T)

-- an entry or none: the session counts its entries
pub data Ends (n : ℕ) (T : List HistoryItem) : ℕ → List HistoryItem → Type 0 where
  ends_none : Ends n T n T
  ends_one : (e : Entry) (k : Kept) → Ends n T (suc n) (item.Told e k ∷ T)

-- the history is the one before with a start or none, and then an entry or none
pub record Grows (s t : Told) (T U : List HistoryItem) : Type 0 where
  pub begun : List HistoryItem
  pub begins : Begins T begun
  pub ends : Ends s.told begun t.told U

-- where it tells a commit, these records are on the disk
abbrev pub IsAcked : {D : Type 0} → List Record → Held D → Outcome → Type 0
IsAcked R s (outcome.Committed number) = length R ≤ s.log.stable
IsAcked R s o = Unit {0}

-- the entry that was told is of this session, with these records, at the moment of the store
pub record IsEntryOf {D : Type 0} (meaning : Meaning D) (who : ℕ) (R : List Record) (s : Held D) (e : Entry) : Type 0 where
  pub session : e.session ≡ who
  pub ends : e.ends ≡ length R
  pub moment : e.moment ≡ meaning.clock s.disk
  pub acked : IsAcked R s e.outcome

-- the newest item, where it is an entry
abbrev pub OfNewest : (Entry → Type 0) → List HistoryItem → Type 0
OfNewest P (item.Told e k ∷ T) = P e
OfNewest P T = Unit {0}
