-- Whose an event is: what it adds to the records Q and the history T, which are R and U afterwards.
use Rattle.std.specs.Prelude.{◌≡◌, ◌⊎◌, ℕ, List, ◌∷◌, length, Some, None, Result, Ok, Err}
use Rattle.seg_words.specs.Types.{Shape}
use Rattle.redo_model.specs.Records.{Record}
use Rattle.usage_laws.specs.Types.{settled}
use Rattle.script_text.specs.declared.statement.Statement.{Statement}
use Rattle.history_text.specs.declared.entry.Entry.{Entry}
use Rattle.history_model.specs.declared.history.Kept.{Kept}
use Rattle.history_model.specs.declared.history.HistoryItem.{HistoryItem}
use Rattle.history_model.specs.declared.history.HistoryItem.TheVariants as item
use Rattle.history_model.specs.History.{IsSession, Task, under_way}
use Rattle.history_laws.specs.Events.{Goes}
use Rattle.history_laws.specs.Telling.{start_now}
use Rattle.session_model.specs.Done.{IsTidied}
use Rattle.store_core.specs.declared.fault.StoreFault.{StoreFault}
use Rattle.session_core.specs.Owing.{NeedsSettling}
use Rattle.session_step.specs.declared.session.Turn.{Turn}
use Rattle.session_step.specs.declared.session.Turn.TheVariants as turns

-- ---- of a statement

-- the statement of session w that is under way goes on, or none is and its next one starts, with the records that are there
pub data Opens (Q : List Record) (T : List HistoryItem) (w : ℕ) : List HistoryItem → Type 0 where
  opens_on : (task : Task) → under_way T w ≡ Some task → Opens Q T w T
  opens_new : under_way T w ≡ None → Opens Q T w (item.Started (start_now Q w) ∷ T)

-- its entry is told, with the records that are there, or none
pub data Closes (R : List Record) (w : ℕ) (B : List HistoryItem) : List HistoryItem → Type 0 where
  closes_none : Closes R w B B
  closes_one : (e : Entry) (k : Kept) → e.session ≡ w → e.ends ≡ length R → Closes R w B (item.Told e k ∷ B)

-- perhaps a start, then records that session w may add, then perhaps an entry
pub record IsEventOf (sh : Shape) (scripts : List (List Statement)) (w : ℕ) (Q : List Record) (T : List HistoryItem) (R : List Record) (U : List HistoryItem) : Type 0 where
  pub session : IsSession scripts w
  pub begun : List HistoryItem
  pub opens : Opens Q T w begun
  pub goes : Goes sh scripts begun w Q R
  pub closes : Closes R w begun U

-- ---- of a settling

-- a block that calls for it is settled
pub record SettlesOne (sh : Shape) (scripts : List (List Statement)) (w : ℕ) (Q : List Record) (T : List HistoryItem) (R : List Record) (U : List HistoryItem) : Type 0 where
  pub session : IsSession scripts w
  pub obj : ℕ
  pub dba : ℕ
  pub needs : NeedsSettling sh Q obj dba
  pub settles : R ≡ settled sh Q obj dba
  pub same : U ≡ T

-- ---- of a turn

-- session w makes an event
abbrev pub IsTurn : Shape → List (List Statement) → ℕ → List Record → List HistoryItem → List Record → List HistoryItem → Type 0
IsTurn sh scripts w Q T R U = SettlesOne sh scripts w Q T R U ⊎ IsEventOf sh scripts w Q T R U

-- what stands where it failed: perhaps a part of a settling, or what its statement added so far
abbrev pub IsPart : Shape → List (List Statement) → ℕ → List Record → List HistoryItem → List Record → List HistoryItem → Type 0
IsPart sh scripts w Q T R U = ((U ≡ T) × IsTidied Q R) ⊎ IsEventOf sh scripts w Q T R U

-- by its answer
abbrev pub TurnMakes : Shape → List (List Statement) → ℕ → List Record → List HistoryItem → List Record → List HistoryItem → Result Turn StoreFault → Type 0
TurnMakes sh scripts w Q T R U (Ok turns.Made) = IsTurn sh scripts w Q T R U
TurnMakes sh scripts w Q T R U (Ok turns.Ended) = (R ≡ Q) × (U ≡ T)
TurnMakes sh scripts w Q T R U (Err f) = IsPart sh scripts w Q T R U
