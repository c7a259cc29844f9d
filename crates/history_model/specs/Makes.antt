-- Which records a statement makes, told by the records before each: so a record belongs to the statement. This engine's own.
use Rattle.std.specs.Prelude.{◌≡◌, ℕ, Bool, false, List, [], length, Option, Some, None}
use Rattle.seg_words.specs.Types.{Shape}
use Rattle.redo_record.specs.declared.record.Record.TheVariants as made
use Rattle.redo_model.specs.Records.{Record, RowBody, TableRecord, MovementRecord, ClassRecord}
use Rattle.redo_model.specs.Model.{row_bytes, table_named}
use Rattle.session_laws.specs.Sessions.{own_of}
use Rattle.mark_laws.specs.Searches.{Sought, is_good, HasNone}
use Rattle.change_laws.specs.Drafts.{Stand}
use Rattle.change_laws.specs.Ready.{ToOther, path_of, first_lacking, updated_blocks, MayWrite}
use Rattle.script_text.specs.declared.statement.Statement.{Statement}
use Rattle.script_text.specs.declared.statement.Statement.TheVariants as asked
use Rattle.script_text.specs.declared.statement.Target.{Target}
use Rattle.history_model.specs.declared.history.HistoryItem.{HistoryItem}
use Rattle.history_model.specs.Spans.{target_row}
use Rattle.history_model.specs.Causes.{own_blocks, sought_for}
use Rattle.history_model.specs.TableMeans.{IsFixedTo}

-- a table with the stated name and PCTFREE
pub record MakesTable (name : List ℕ) (pctfree : ℕ) (t : TableRecord) : Type 0 where
  pub named : t.name ≡ name
  pub share : t.pctfree ≡ pctfree

-- row movement of the stated table
pub record MakesMovement (name : List ℕ) (on : Bool) (Q : List Record) (m : MovementRecord) : Type 0 where
  pub table : table_named Q name ≡ Some m.obj
  pub switched : m.on ≡ on

-- a record of session w's transaction on a row of the stated table
pub record MakesRow (name : List ℕ) (w : ℕ) (Q : List Record) (body : RowBody) : Type 0 where
  pub own : own_of Q w ≡ Some body.txn
  pub table : table_named Q name ≡ Some body.obj

-- on the row that is meant
pub record MakesTarget (scripts : List (List Statement)) (past : List HistoryItem) (name : List ℕ) (target : Target) (w : ℕ) (Q : List Record) (body : RowBody) : Type 0 where
  pub row : MakesRow name w Q body
  pub meant : target_row scripts past target ≡ Some body.row

-- no formatted block of the table under its high mark, of a kept class from Fs1 to Fs4, takes the row that is sought for
abbrev pub NoneGood : Shape → List Record → Sought → Type 0
NoneGood sh Q q = HasNone sh Q q.obj (is_good sh Q q)

-- an insert calls for a movement of table o's marks
pub record InsertMoves (sh : Shape) (name text : List ℕ) (w : ℕ) (Q : List Record) (o : ℕ) : Type 0 where
  pub table : table_named Q name ≡ Some o
  pub none : NoneGood sh Q (sought_for (own_of Q w) o (length text) [])

-- So does an update of a row that may be changed, of which no block lacks a list entry, where it goes to another block: its own
-- blocks are left out.
pub record UpdateMoves (sh : Shape) (scripts : List (List Statement)) (past : List HistoryItem) (name : List ℕ) (target : Target) (text : List ℕ) (w : ℕ) (Q : List Record) (o : ℕ) : Type 0 where
  pub table : table_named Q name ≡ Some o
  pub row : ℕ
  pub meant : target_row scripts past target ≡ Some row
  pub stand : Stand
  pub write : MayWrite Q (own_of Q w) o row stand
  pub away : path_of Q (own_of Q w) stand (length text) ≡ ToOther
  pub entries : first_lacking Q (own_of Q w) (updated_blocks Q (own_of Q w) stand (length text)) ≡ None
  pub none : NoneGood sh Q (sought_for (own_of Q w) o (length text) (own_blocks stand))

-- a Class of the block that is to be fixed, of the class that is to be kept
pub record MakesClass (name : List ℕ) (block : ℕ) (value : Option ℕ) (Q : List Record) (k : ClassRecord) : Type 0 where
  pub table : table_named Q name ≡ Some k.obj
  pub block_is : k.dba ≡ block
  pub fixed : IsFixedTo Q k.obj block value k.class

-- The statement of session w, with this history before its start, makes the record after the records Q; none is the session's
-- end.
abbrev pub Makes : Shape → List (List Statement) → List HistoryItem → ℕ → Option Statement → List Record → Record → Type 0
Makes sh scripts past w (Some (asked.Table name pctfree)) Q (made.Table t) = MakesTable name pctfree t
Makes sh scripts past w (Some (asked.Movement name on)) Q (made.Movement m) = MakesMovement name on Q m
Makes sh scripts past w (Some (asked.Insert name label text)) Q (made.Begin g) = g.session ≡ w
Makes sh scripts past w (Some (asked.Insert name label text)) Q (made.Insert body) = MakesRow name w Q body × (row_bytes body.parts ≡ text)
Makes sh scripts past w (Some (asked.Insert name label text)) Q (made.FormatBlock f) = InsertMoves sh name text w Q f.obj
Makes sh scripts past w (Some (asked.Insert name label text)) Q (made.Advance a) = InsertMoves sh name text w Q a.obj
Makes sh scripts past w (Some (asked.Insert name label text)) Q (made.Extend e) = InsertMoves sh name text w Q e.obj
Makes sh scripts past w (Some (asked.Update name target text)) Q (made.Begin g) = g.session ≡ w
Makes sh scripts past w (Some (asked.Update name target text)) Q (made.Update body) = MakesTarget scripts past name target w Q body × (row_bytes body.parts ≡ text)
Makes sh scripts past w (Some (asked.Update name target text)) Q (made.Migrate body) = MakesTarget scripts past name target w Q body × (row_bytes body.parts ≡ text)
Makes sh scripts past w (Some (asked.Update name target text)) Q (made.Return body) = MakesTarget scripts past name target w Q body × (row_bytes body.parts ≡ text)
Makes sh scripts past w (Some (asked.Update name target text)) Q (made.FormatBlock f) = UpdateMoves sh scripts past name target text w Q f.obj
Makes sh scripts past w (Some (asked.Update name target text)) Q (made.Advance a) = UpdateMoves sh scripts past name target text w Q a.obj
Makes sh scripts past w (Some (asked.Update name target text)) Q (made.Extend e) = UpdateMoves sh scripts past name target text w Q e.obj
Makes sh scripts past w (Some (asked.Delete name target)) Q (made.Begin g) = g.session ≡ w
Makes sh scripts past w (Some (asked.Delete name target)) Q (made.Delete body) = MakesTarget scripts past name target w Q body
Makes sh scripts past w (Some asked.Commit) Q (made.Commit c) = own_of Q w ≡ Some c.txn
Makes sh scripts past w (Some asked.Rollback) Q (made.Back k) = own_of Q w ≡ Some k.txn
Makes sh scripts past w (Some asked.Rollback) Q (made.Ended e) = own_of Q w ≡ Some e.txn
Makes sh scripts past w None Q (made.Back k) = own_of Q w ≡ Some k.txn
Makes sh scripts past w None Q (made.Ended e) = own_of Q w ≡ Some e.txn
Makes sh scripts past w (Some (asked.Shrink name compact)) Q (made.Move m) = table_named Q name ≡ Some m.obj
Makes sh scripts past w (Some (asked.Shrink name false)) Q (made.Lower l) = table_named Q name ≡ Some l.obj
Makes sh scripts past w (Some (asked.Fix name block value)) Q (made.Class k) = MakesClass name block value Q k
Makes sh scripts past w st Q r = ⊥
