-- What the accepted changes of rows, and the ends of transactions, mean. Oracle Database Concepts, "Transactions".
use Rattle.std.specs.Prelude.{◌≡◌, ℕ, false, cond, List, [], ◌∷◌, Option, Some, None}
use Rattle.seg_words.specs.Types.{Shape}
use Rattle.redo_model.specs.Records.{Record, RowPart, RowBody, BeginRecord, ReuseRecord, CommitRecord, EndedRecord}
use Rattle.redo_model.specs.Records.{Begin, Reuse, Insert, Update, Migrate, Return, Delete, Commit, Ended}
use Rattle.redo_model.specs.Model.{row_bytes, holds_row, is_backed, table_named}
use Rattle.session_laws.specs.Sessions.{own_of, own_rows}
use Rattle.script_text.specs.declared.statement.Statement.{Statement}
use Rattle.script_text.specs.declared.statement.Statement.TheVariants as asked
use Rattle.script_text.specs.declared.statement.Target.{Target}
use Rattle.history_model.specs.Spans.{Span, later, target_row}
use Rattle.history_model.specs.SoFar.{IsIdle}
use Rattle.history_model.specs.Causes.{IsFound}

-- perhaps the session's transaction begins
abbrev pub with_begin : Option BeginRecord → List Record → List Record
with_begin None R = R
with_begin (Some g) R = Begin g ∷ R

-- perhaps an undo block is taken into use
abbrev pub with_reuse : Option ReuseRecord → List Record → List Record
with_reuse None R = R
with_reuse (Some q) R = Reuse q ∷ R

-- Behind the records `before` stands the one row record that the session made since the statement began, of its transaction, in
-- the stated table. The last event found the statement idle, and added nothing before it but what it calls for.
pub record IsOneRow (x : Span) (name : List ℕ) (before : List Record) (body : RowBody) : Type 0 where
  pub table : table_named x.begun name ≡ Some body.obj
  pub own : own_of before x.session ≡ Some body.txn
  pub one : own_rows before x.session ≡ own_rows x.begun x.session
  pub event : List Record
  pub idle : IsIdle (later x event)
  pub begin : Option BeginRecord
  pub reuse : Option ReuseRecord
  pub before_is : before ≡ with_reuse reuse (with_begin begin event)

-- the block of the one new image of kind Row or Body
abbrev pub row_block : List RowPart → Option ℕ
row_block [] = None
row_block (p ∷ ps) = cond (holds_row p.new.kind) (Some p.dba) (row_block ps)

-- inserted: an Insert with the row's number and the stated text, into the block that the search gave
pub record InsertMeans (sh : Shape) (x : Span) (name label text : List ℕ) (row : ℕ) : Type 0 where
  pub before : List Record
  pub body : RowBody
  pub change : IsOneRow x name before body
  pub number : body.row ≡ row
  pub text_is : row_bytes body.parts ≡ text
  pub block : ℕ
  pub is_found : IsFound sh (later x change.event) (asked.Insert name label text) block
  pub at : row_block body.parts ≡ Some block
  pub ends : x.ended ≡ Insert body ∷ before

-- an update in place, to another block, or back to the head
abbrev pub IsUpdate : RowBody → Record → Type 0
IsUpdate body (Update w) = w ≡ body
IsUpdate body (Migrate w) = w ≡ body
IsUpdate body (Return w) = w ≡ body
IsUpdate body _ = ⊥

-- a row that goes to another block goes into the one that the search gave
pub record IsMigratedTo (sh : Shape) (x : Span) (st : Statement) (body : RowBody) : Type 0 where
  pub block : ℕ
  pub is_found : IsFound sh x st block
  pub at : row_block body.parts ≡ Some block

abbrev pub GoesTo : Shape → Span → Statement → Record → Type 0
GoesTo sh x st (Migrate w) = IsMigratedTo sh x st w
GoesTo sh x st _ = Unit {0}

-- updated: one of these, of the row that is meant, with the stated text
pub record UpdateMeans (sh : Shape) (x : Span) (name : List ℕ) (target : Target) (text : List ℕ) (row : ℕ) : Type 0 where
  pub before : List Record
  pub body : RowBody
  pub change : IsOneRow x name before body
  pub number : body.row ≡ row
  pub meant : target_row x.scripts x.past target ≡ Some row
  pub text_is : row_bytes body.parts ≡ text
  pub made : Record
  pub kind : IsUpdate body made
  pub goes : GoesTo sh (later x change.event) (asked.Update name target text) made
  pub ends : x.ended ≡ made ∷ before

-- deleted: a Delete of the row that is meant
pub record DeleteMeans (x : Span) (name : List ℕ) (target : Target) (row : ℕ) : Type 0 where
  pub before : List Record
  pub body : RowBody
  pub change : IsOneRow x name before body
  pub number : body.row ≡ row
  pub meant : target_row x.scripts x.past target ≡ Some row
  pub ends : x.ended ≡ Delete body ∷ before

-- committed: the Commit of the session's transaction, with its number
pub record CommitMeans (x : Span) (number : ℕ) : Type 0 where
  pub commit : CommitRecord
  pub own : own_of x.begun x.session ≡ Some commit.txn
  pub number_is : commit.number ≡ number
  pub ends : x.ended ≡ Commit commit ∷ x.begun

-- rolled back: at the end stands the Ended of the session's transaction, of which nothing was taken back as it began
pub record RollbackMeans (x : Span) : Type 0 where
  pub before : List Record
  pub end' : EndedRecord
  pub own : own_of x.begun x.session ≡ Some end'.txn
  pub whole : is_backed x.begun end'.txn ≡ false
  pub ends : x.ended ≡ Ended end' ∷ before

-- nothing to commit, or to roll back: the session has no transaction, and no record is added
pub record NothingMeans (x : Span) : Type 0 where
  pub none : own_of x.begun x.session ≡ None
  pub ends : x.ended ≡ x.begun
