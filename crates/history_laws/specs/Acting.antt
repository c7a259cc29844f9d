-- The events of a statement before its last one, and the last one of a rollback: the records are its own, and its work goes on.
use Rattle.std.specs.Prelude.{◌≡◌, ℕ, true, false, List, [], ◌∷◌, length, Option, Some, None}
use Rattle.seg_words.specs.Types.{Shape, is_shape}
use Rattle.redo_record.specs.declared.record.Record.TheVariants as made
use Rattle.redo_model.specs.Records.{Record, BackRecord, EndedRecord}
use Rattle.redo_model.specs.Model.{commit_count, is_backed, table_named, IsTable, AreAllowed}
use Rattle.session_laws.specs.Sessions.{own_of}
use Rattle.mark_laws.specs.Drafts.{mark_record}
use Rattle.mark_laws.specs.Searches.{find_of}
use Rattle.mark_laws.specs.declared.step.MarkStep.{MarkStep}
use Rattle.mark_laws.specs.declared.step.Found.TheVariants as found
use Rattle.change_laws.specs.Drafts.{Stand}
use Rattle.change_laws.specs.Looks.{WasFound}
use Rattle.change_laws.specs.Ready.{ToOther, path_of, first_lacking, updated_blocks, MayWrite}
use Rattle.script_text.specs.declared.statement.Statement.{Statement}
use Rattle.script_text.specs.declared.statement.Statement.TheVariants as asked
use Rattle.script_text.specs.declared.statement.Target.{Target}
use Rattle.history_text.specs.declared.outcome.Outcome.TheVariants as told
use Rattle.history_model.specs.declared.history.HistoryItem.{HistoryItem}
use Rattle.history_model.specs.declared.history.Kept.TheVariants as kept
use Rattle.history_model.specs.Spans.{Span, own_then, target_row}
use Rattle.history_model.specs.Causes.{IsOnRow, sought_for, own_blocks}
use Rattle.history_model.specs.Makes.{Makes}
use Rattle.history_model.specs.Means.{Means}
use Rattle.history_laws.specs.Working.{grown, FoundAt, RowWork, RowStands, BackStands, Work, Inserting, OnRow, WorkStands}

-- ---- movements of the marks

-- where the search of an insert gives one, the insert makes its record
abbrev pub InsertsMove : Type 0
InsertsMove =
    (sh : Shape) (scripts : List (List Statement)) (past : List HistoryItem) (w : ℕ) (Q : List Record) (name label text : List ℕ) (o : ℕ) (hint : Option ℕ) (m : MarkStep) → is_shape sh ≡ true → AreAllowed sh Q → IsTable Q o → table_named Q name ≡ Some o
    → find_of sh Q (sought_for (own_of Q w) o (length text) []) hint ≡ Some (found.Mark m) → Makes sh scripts past w (Some (asked.Insert name label text)) Q (mark_record sh Q o m)

-- so does an update of a row that goes to another block
abbrev pub UpdatesMove : Type 0
UpdatesMove =
    (sh : Shape) (scripts : List (List Statement)) (past : List HistoryItem) (w : ℕ) (Q : List Record) (name : List ℕ) (target : Target) (text : List ℕ) (o n : ℕ) (s : Stand) (hint : Option ℕ) (m : MarkStep) → is_shape sh ≡ true → AreAllowed sh Q
    → table_named Q name ≡ Some o → target_row scripts past target ≡ Some n → MayWrite Q (own_of Q w) o n s → path_of Q (own_of Q w) s (length text) ≡ ToOther → first_lacking Q (own_of Q w) (updated_blocks Q (own_of Q w) s (length text)) ≡ None
    → find_of sh Q (sought_for (own_of Q w) o (length text) (own_blocks s)) hint ≡ Some (found.Mark m) → Makes sh scripts past w (Some (asked.Update name target text)) Q (mark_record sh Q o m)

-- either goes on with the work that it had
abbrev pub IsRowWork : Work → Type 0
IsRowWork (Inserting o) = Unit {0}
IsRowWork (OnRow k) = Unit {0}
IsRowWork k = ⊥

abbrev pub MarksLeaveWork : Type 0
MarksLeaveWork = (sh : Shape) (x : Span) (st : Option Statement) (k : Work) (o : ℕ) (m : MarkStep) → AreAllowed sh (mark_record sh x.ended o m ∷ x.ended) → IsRowWork k → WorkStands sh x st k → WorkStands sh (grown x (mark_record sh x.ended o m)) st k

-- ---- an update or a delete

-- it begins with a look for its row
abbrev pub begun_row : ℕ → ℕ → RowWork
begun_row o n = record { obj = o; row = n; starts = []; place = None }

abbrev pub RowsBegin : Type 0
RowsBegin = (sh : Shape) (x : Span) (st : Statement) (o n : ℕ) → x.ended ≡ x.begun → IsOnRow x st o n → RowStands sh x st (begun_row o n)

-- and has found it
abbrev pub found_row : RowWork → FoundAt → RowWork
found_row k f = record { obj = k.obj; row = k.row; starts = k.starts; place = Some f }

abbrev pub RowsAreFound : Type 0
RowsAreFound =
    (sh : Shape) (x : Span) (st : Statement) (k : RowWork) (f : FoundAt) → WasFound sh x.ended (own_then x) k.obj k.row f.place f.born f.undo f.start → f.start ≡ commit_count x.ended → RowStands sh x st k → RowStands sh x st (found_row k f)

-- ---- a rollback

-- one begins with the session's transaction, of which nothing is taken back
abbrev pub BacksBegin : Type 0
BacksBegin = (x : Span) (t : ℕ) → x.ended ≡ x.begun → own_of x.begun x.session ≡ Some t → is_backed x.begun t ≡ false → BackStands x t

-- it is asked for, or the session ends
abbrev pub TakesBack : Option Statement → Type 0
TakesBack (Some asked.Rollback) = Unit {0}
TakesBack None = Unit {0}
TakesBack st = ⊥

-- a record is taken back
pub record BackGoes (sh : Shape) (x : Span) (st : Option Statement) (t : ℕ) (k : BackRecord) : Type 0 where
  pub makes : Makes sh x.scripts x.past x.session st x.ended (made.Back k)
  pub stands : BackStands (grown x (made.Back k)) t

abbrev pub BacksGo : Type 0
BacksGo = (sh : Shape) (x : Span) (st : Option Statement) (t : ℕ) (k : BackRecord) → TakesBack st → k.txn ≡ t → BackStands x t → BackGoes sh x st t k

-- the transaction has ended
pub record BackEnds (sh : Shape) (x : Span) (st : Option Statement) (e : EndedRecord) : Type 0 where
  pub makes : Makes sh x.scripts x.past x.session st x.ended (made.Ended e)
  pub means : Means sh (grown x (made.Ended e)) st told.RolledBack kept.Nothing
  pub none : own_of (made.Ended e ∷ x.ended) x.session ≡ None

abbrev pub BacksEnd : Type 0
BacksEnd = (sh : Shape) (x : Span) (st : Option Statement) (t : ℕ) (e : EndedRecord) → TakesBack st → e.txn ≡ t → BackStands x t → BackEnds sh x st e
