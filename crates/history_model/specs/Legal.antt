-- What the records and the history of a run of many sessions have to be: it is legal. This engine's own.
use Rattle.std.specs.Prelude.{◌≡◌, ◌⊎◌, ℕ, ◌≤◌, ◌<◌, false, List, [], ◌∷◌, length, Some, None}
use Rattle.seg_words.specs.Types.{Shape, By}
use Rattle.redo_record.specs.declared.record.Record.TheVariants as made
use Rattle.redo_model.specs.Records.{Record, ClassRecord, CleanRecord}
use Rattle.redo_model.specs.Model.{prefix, commit_number, is_forgotten, image, slot_count, pctfree_of, class_of_block, IsLawful}
use Rattle.session_laws.specs.Sessions.{own_of}
use Rattle.script_text.specs.declared.statement.Statement.{Statement}
use Rattle.history_text.specs.declared.entry.Entry.{Entry}
use Rattle.history_model.specs.declared.history.Start.{Start}
use Rattle.history_model.specs.declared.history.Kept.{Kept}
use Rattle.history_model.specs.declared.history.HistoryItem.{HistoryItem}
use Rattle.history_model.specs.declared.history.HistoryItem.TheVariants as item
use Rattle.history_model.specs.History.{script_of, IsSession, statement_of, ordinal_of, entry_count, reached, Task, under_way, owner}
use Rattle.history_model.specs.Spans.{span_of}
use Rattle.history_model.specs.Makes.{Makes}
use Rattle.history_model.specs.Means.{Means, PassesOver}

-- ---- records: to which statement each belongs

-- the record r after the records Q belongs to a statement of session w: it stands in the statement's range, and the statement
-- makes it there
pub record BelongsTo (sh : Shape) (scripts : List (List Statement)) (T : List HistoryItem) (Q : List Record) (r : Record) (w : ℕ) : Type 0 where
  pub session : IsSession scripts w
  pub task : Task
  pub owned : owner T w (length Q) ≡ Some task
  pub makes : Makes sh scripts task.past w (statement_of scripts w task.place) Q r

-- to one statement of one session, and to none of another
pub record Belongs (sh : Shape) (scripts : List (List Statement)) (T : List HistoryItem) (Q : List Record) (r : Record) : Type 0 where
  pub session : ℕ
  pub to : BelongsTo sh scripts T Q r session
  pub alone : (v : ℕ) → BelongsTo sh scripts T Q r v → v ≡ session

-- to a statement of some session
pub record IsCalledBy (sh : Shape) (scripts : List (List Statement)) (T : List HistoryItem) (Q : List Record) (r : Record) : Type 0 where
  pub session : ℕ
  pub to : BelongsTo sh scripts T Q r session

-- a Class states the class of its block
abbrev pub StatesClass : List Record → ClassRecord → Type 0
StatesClass Q k = k.class ≡ class_of_block Q (pctfree_of Q k.obj) k.dba

-- a Clean is called for: a slot of its block names a transaction that has committed and isn't forgotten
pub record IsCleaning (Q : List Record) (c : CleanRecord) : Type 0 where
  pub slot : ℕ
  pub there : slot < slot_count Q c.dba
  pub txn : ℕ
  pub names : (image Q c.dba slot).writer ≡ By txn
  pub number : ℕ
  pub committed : commit_number Q txn ≡ Some number
  pub known : is_forgotten Q txn ≡ false

-- Why the record r stands after the records Q. A Begin, a row record, a Commit, a Back, an Ended, a Move, a Lower, a Table and a
-- Movement belong to exactly one statement. A movement of the marks is called for by an insert or an update. A Class states the
-- class of its block, or belongs to one statement that fixes it. A Clean and a Class that settle a block belong to nobody. A
-- Reuse, and a table's first Extend, are called for by the record beside them, in a lawful list.
abbrev pub IsMade : Shape → List (List Statement) → List HistoryItem → List Record → Record → Type 0
IsMade sh scripts T Q (made.Class k) = StatesClass Q k ⊎ Belongs sh scripts T Q (made.Class k)
IsMade sh scripts T Q (made.Clean c) = IsCleaning Q c
IsMade sh scripts T Q (made.Reuse q) = Unit {0}
IsMade sh scripts T Q (made.Extend e) = (e.index ≡ 0) ⊎ IsCalledBy sh scripts T Q (made.Extend e)
IsMade sh scripts T Q (made.FormatBlock f) = IsCalledBy sh scripts T Q (made.FormatBlock f)
IsMade sh scripts T Q (made.Advance a) = IsCalledBy sh scripts T Q (made.Advance a)
IsMade sh scripts T Q r = Belongs sh scripts T Q r

-- the records are those that the call found, with records that were made
pub data AreMade (sh : Shape) (scripts : List (List Statement)) (T : List HistoryItem) (R0 : List Record) : List Record → Type 0 where
  made_none : AreMade sh scripts T R0 R0
  made_one : {R : List Record} (r : Record) → AreMade sh scripts T R0 R → IsMade sh scripts T R r → AreMade sh scripts T R0 (r ∷ R)

-- ---- history: what each start and each entry says

-- A statement starts: its session is one of the scripts', no other statement of it is under way, and its statements and its end
-- have not all been told. A session's end starts only where the session has an open transaction.
pub record StartStands (scripts : List (List Statement)) (found : ℕ) (R : List Record) (s : Start) (T : List HistoryItem) : Type 0 where
  pub session : IsSession scripts s.session
  pub idle : under_way T s.session ≡ None
  pub place : entry_count T s.session ≤ length (script_of scripts s.session)
  pub closing : statement_of scripts s.session (entry_count T s.session) ≡ None → own_of (prefix R s.begins) s.session ≡ None → ⊥
  pub order : reached found T ≤ s.begins
  pub within : s.begins ≤ length R

-- An entry stands after its start, with as many records before it, and is told with its ordinal. It means what its row says of
-- its span, and passes over the causes that don't apply.
pub record EntryStands (sh : Shape) (scripts : List (List Statement)) (found : ℕ) (R : List Record) (e : Entry) (k : Kept) (T : List HistoryItem) : Type 0 where
  pub task : Task
  pub started : under_way T e.session ≡ Some task
  pub begins : e.begins ≡ task.begins
  pub ordinal : e.ordinal ≡ ordinal_of scripts e.session task.place
  pub order : reached found T ≤ e.ends
  pub grows : e.begins ≤ e.ends
  pub within : e.ends ≤ length R
  pub means : Means sh (span_of scripts R e.session task e.ends) (statement_of scripts e.session task.place) e.outcome k
  pub passes : PassesOver sh (span_of scripts R e.session task e.ends) (statement_of scripts e.session task.place) e.outcome k

abbrev pub Stands : Shape → List (List Statement) → ℕ → List Record → HistoryItem → List HistoryItem → Type 0
Stands sh scripts found R (item.Started s) T = StartStands scripts found R s T
Stands sh scripts found R (item.Told e k) T = EntryStands sh scripts found R e k T

-- each start and each entry stands after those before it
abbrev pub AreTold : Shape → List (List Statement) → ℕ → List Record → List HistoryItem → Type 0
AreTold sh scripts found R [] = Unit {0}
AreTold sh scripts found R (i ∷ T) = Stands sh scripts found R i T × AreTold sh scripts found R T

-- From the records R0 that the call found, the statements of the scripts' sessions made the records R and the history T.
pub record IsLegal (sh : Shape) (scripts : List (List Statement)) (R0 R : List Record) (T : List HistoryItem) : Type 0 where
  pub lawful : IsLawful sh R
  pub made : AreMade sh scripts T R0 R
  pub told : AreTold sh scripts (length R0) R T
