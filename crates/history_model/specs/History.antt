-- The history of a call, newest first: starts and entries, what is under way, to which statement a record belongs, and which
-- row a label stands for. This engine's own.
use Rattle.std.specs.Prelude.{◌≡◌, ℕ, zero, suc, ◌≤◌, ◌&&◌, cond, eqb, leb, ltb, List, [], ◌∷◌, length, Option, Some, None, slice_get}
use Rattle.redo_model.specs.Model.{is_byte_list}
use Rattle.script_text.specs.declared.statement.Statement.{Statement}
use Rattle.script_text.specs.declared.statement.Statement.TheVariants as asked
use Rattle.history_text.specs.declared.entry.Entry.{Entry}
use Rattle.history_text.specs.declared.outcome.Outcome.{Outcome}
use Rattle.history_text.specs.declared.outcome.Outcome.TheVariants as told
use Rattle.history_model.specs.declared.history.Start.{Start}
use Rattle.history_model.specs.declared.history.HistoryItem.{HistoryItem}
use Rattle.history_model.specs.declared.history.HistoryItem.TheVariants as item

-- ---- scripts

-- the statements of session w: sessions are numbered from 1
abbrev pub script_of : List (List Statement) → ℕ → List Statement
script_of [] w = []
script_of (s ∷ ss) zero = []
script_of (s ∷ ss) (suc zero) = s
script_of (s ∷ ss) (suc (suc w)) = script_of ss (suc w)

-- the scripts have this session
pub record IsSession (scripts : List (List Statement)) (w : ℕ) : Type 0 where
  pub from : 1 ≤ w
  pub to : w ≤ length scripts

-- the statement of session w with so many before it; behind the last one comes the session's end, which is none
abbrev pub statement_of : List (List Statement) → ℕ → ℕ → Option Statement
statement_of scripts w n = slice_get (script_of scripts w) n

-- the ordinal with which its entry is told: statements are counted from 1, the session's end has none
abbrev pub ordinal_of : List (List Statement) → ℕ → ℕ → Option ℕ
ordinal_of scripts w n = cond (ltb n (length (script_of scripts w))) (Some (suc n)) None

-- ---- entries

-- the session of a start or an entry
abbrev pub session_of : HistoryItem → ℕ
session_of (item.Started s) = s.session
session_of (item.Told e kept) = e.session

-- how many entries session w has
abbrev pub entry_count : List HistoryItem → ℕ → ℕ
entry_count [] w = 0
entry_count (item.Started s ∷ T) w = entry_count T w
entry_count (item.Told e kept ∷ T) w = cond (eqb e.session w) (suc (entry_count T w)) (entry_count T w)

-- the entries alone, which are printed
abbrev pub entries_of : List HistoryItem → List Entry
entries_of [] = []
entries_of (item.Started s ∷ T) = entries_of T
entries_of (item.Told e kept ∷ T) = e ∷ entries_of T

-- how many records there were at the newest start or entry; before the first one those that the call found
abbrev pub reached : ℕ → List HistoryItem → ℕ
reached found [] = found
reached found (item.Started s ∷ T) = s.begins
reached found (item.Told e kept ∷ T) = e.ends

-- the moments of the entries never fall, and none is above this one
abbrev pub AreInTime : ℕ → List HistoryItem → Type 0
AreInTime moment [] = Unit {0}
AreInTime moment (item.Started s ∷ T) = AreInTime moment T
AreInTime moment (item.Told e kept ∷ T) = (e.moment ≤ moment) × AreInTime e.moment T

-- ---- statements that started

-- a statement of a session that has started: how many statements of the session stand before it, how many records there were
-- before its first event, and the history before its start
pub record Task : Type 0 where
  pub place : ℕ
  pub begins : ℕ
  pub past : List HistoryItem

abbrev pub task_of : Start → List HistoryItem → Task
task_of s T = record { place = entry_count T s.session; begins = s.begins; past = T }

-- the statement of session w that has started and has no entry yet
abbrev pub under_way : List HistoryItem → ℕ → Option Task
under_way [] w = None
under_way (item.Started s ∷ T) w = cond (eqb s.session w) (Some (task_of s T)) (under_way T w)
under_way (item.Told e kept ∷ T) w = cond (eqb e.session w) None (under_way T w)

-- The statement of session w to which its record after the first n belongs: the one between whose first event's beginning and
-- last event's end the record stands. A statement under way has no end yet.
abbrev pub owner : List HistoryItem → ℕ → ℕ → Option Task
owner [] w n = None
owner (item.Started s ∷ T) w n = cond (eqb s.session w && leb s.begins n) (Some (task_of s T)) (owner T w n)
owner (item.Told e kept ∷ T) w n = cond (eqb e.session w && leb e.begins n) (cond (ltb n e.ends) (under_way T w) None) (owner T w n)

-- ---- labels

-- the row that a label stands for after this outcome of this statement: an accepted insert of the label gives it its row
abbrev pub bound_by : Option Statement → Outcome → List ℕ → Option ℕ → Option ℕ
bound_by (Some (asked.Insert name label text)) (told.Inserted row) l was = cond (is_byte_list label l) (Some row) was
bound_by st outcome l was = was

-- the row that label l stands for, if an entry of the history is an accepted insert of it
abbrev pub bound : List (List Statement) → List HistoryItem → List ℕ → Option ℕ
bound scripts [] l = None
bound scripts (item.Started s ∷ T) l = bound scripts T l
bound scripts (item.Told e kept ∷ T) l = bound_by (statement_of scripts e.session (entry_count T e.session)) e.outcome l (bound scripts T l)

-- ---- the end of a run

-- each statement of each session has its entry, and nothing is under way, of any session whatever
pub record IsOver (scripts : List (List Statement)) (T : List HistoryItem) : Type 0 where
  pub told : (w : ℕ) → IsSession scripts w → length (script_of scripts w) ≤ entry_count T w
  pub idle : (w : ℕ) → under_way T w ≡ None
