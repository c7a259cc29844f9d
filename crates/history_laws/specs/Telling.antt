-- A start and an entry as an event of session w makes them, and what they leave of what is under way.
use Rattle.std.specs.Prelude.{◌≡◌, ◌≢◌, ℕ, suc, ◌≤◌, List, ◌∷◌, length, Some, None}
use Rattle.seg_words.specs.Types.{Shape}
use Rattle.redo_model.specs.Records.{Record}
use Rattle.session_laws.specs.Sessions.{own_of}
use Rattle.script_text.specs.declared.statement.Statement.{Statement}
use Rattle.history_text.specs.declared.entry.Entry.{Entry}
use Rattle.history_text.specs.declared.outcome.Outcome.{Outcome}
use Rattle.history_model.specs.declared.history.Start.{Start}
use Rattle.history_model.specs.declared.history.Kept.{Kept}
use Rattle.history_model.specs.declared.history.HistoryItem.{HistoryItem}
use Rattle.history_model.specs.declared.history.HistoryItem.TheVariants as item
use Rattle.history_model.specs.History.{script_of, IsSession, statement_of, ordinal_of, session_of, entry_count, Task, task_of, under_way}
use Rattle.history_model.specs.Means.{Means, PassesOver}
use Rattle.history_model.specs.Legal.{IsLegal}
use Rattle.history_laws.specs.Working.{now_of}

-- a start now
abbrev pub start_now : List Record → ℕ → Start
start_now R w = record { session = w; begins = length R }

-- an entry now, of a statement under way
abbrev pub entry_now : List (List Statement) → List Record → ℕ → Task → ℕ → Outcome → Entry
entry_now scripts R w task moment outcome = record { session = w; ordinal = ordinal_of scripts w task.place; begins = task.begins; ends = length R; moment = moment; outcome = outcome }

-- the next statement of session w may start: none is under way, and not all have been told, its end included, which only an open
-- transaction calls for
pub record MayStart (scripts : List (List Statement)) (R : List Record) (T : List HistoryItem) (w : ℕ) : Type 0 where
  pub session : IsSession scripts w
  pub idle : under_way T w ≡ None
  pub place : entry_count T w ≤ length (script_of scripts w)
  pub closing : statement_of scripts w (entry_count T w) ≡ None → own_of R w ≡ None → ⊥

abbrev pub StartsKeep : Type 0
StartsKeep = (sh : Shape) (scripts : List (List Statement)) (R0 R : List Record) (T : List HistoryItem) (w : ℕ) → MayStart scripts R T w → IsLegal sh scripts R0 R T → IsLegal sh scripts R0 R (item.Started (start_now R w) ∷ T)

-- a statement under way may end with this outcome
pub record MayEnd (sh : Shape) (scripts : List (List Statement)) (R : List Record) (T : List HistoryItem) (w : ℕ) (task : Task) (outcome : Outcome) (k : Kept) : Type 0 where
  pub now : under_way T w ≡ Some task
  pub means : Means sh (now_of scripts R w task) (statement_of scripts w task.place) outcome k
  pub passes : PassesOver sh (now_of scripts R w task) (statement_of scripts w task.place) outcome k

abbrev pub EntriesKeep : Type 0
EntriesKeep =
    (sh : Shape) (scripts : List (List Statement)) (R0 R : List Record) (T : List HistoryItem) (w : ℕ) (task : Task) (moment : ℕ) (outcome : Outcome) (k : Kept) → MayEnd sh scripts R T w task outcome k → IsLegal sh scripts R0 R T
    → IsLegal sh scripts R0 R (item.Told (entry_now scripts R w task moment outcome) k ∷ T)

-- the span of a statement that starts now begins with the records as they are
abbrev pub SpansBegin : Type 0
SpansBegin = (scripts : List (List Statement)) (R : List Record) (T : List HistoryItem) (w : ℕ) → (now_of scripts R w (task_of (start_now R w) T)).begun ≡ R

-- of session w
pub record OwnTold (T : List HistoryItem) (w : ℕ) : Type 0 where
  pub started : (s : Start) → s.session ≡ w → under_way (item.Started s ∷ T) w ≡ Some (task_of s T)
  pub ended : (e : Entry) (k : Kept) → e.session ≡ w → under_way (item.Told e k ∷ T) w ≡ None
  pub counted : (e : Entry) (k : Kept) → e.session ≡ w → entry_count (item.Told e k ∷ T) w ≡ suc (entry_count T w)

-- what another session tells leaves it
pub record OtherTold (T : List HistoryItem) (i : HistoryItem) (w : ℕ) : Type 0 where
  pub way : under_way (i ∷ T) w ≡ under_way T w
  pub count : entry_count (i ∷ T) w ≡ entry_count T w

abbrev pub OwnIsTold : Type 0
OwnIsTold = (T : List HistoryItem) (w : ℕ) → OwnTold T w

abbrev pub OthersAreTold : Type 0
OthersAreTold = (T : List HistoryItem) (i : HistoryItem) (w : ℕ) → session_of i ≢ w → OtherTold T i w
