-- An insert past its tests, and what its event answers where no row is inserted.
use Rattle.std.specs.Prelude.{◌≡◌, ℕ, ◌≤◌, Bool, false, cond, List, Option, Some, None, Result, Ok, Err}
use Rattle.seg_words.specs.Types.{Shape, MOST_SESSIONS}
use Rattle.redo_model.specs.Model.{table_named}
use Rattle.session_laws.specs.Sessions.{own_backed}
use Rattle.script_text.specs.declared.statement.Statement.TheVariants as asked
use Rattle.history_text.specs.declared.outcome.Outcome.TheVariants as outcome
use Rattle.history_text.specs.declared.refusal.Refusal.{Refusal}
use Rattle.history_text.specs.declared.refusal.Refusal.TheVariants as why
use Rattle.history_model.specs.declared.history.Kept.TheVariants as kept
use Rattle.history_model.specs.Spans.{Span}
use Rattle.history_model.specs.Passing.{FirstPass}
use Rattle.history_laws.specs.Working.{InsertStands}
use Rattle.store_core.specs.declared.fault.StoreFault.{StoreFault}
use Rattle.free_search.specs.declared.fault.FindFault.{FindFault}
use Rattle.free_search.specs.declared.fault.FindFault.TheVariants as finds
use Rattle.row_change.specs.declared.answer.Done.{Done}
use Rattle.row_change.specs.declared.answer.ChangeFault.{ChangeFault}
use Rattle.row_change.specs.declared.answer.ChangeFault.TheVariants as changes
use Rattle.session_core.specs.declared.session.Doing.TheVariants as told
use Rattle.session_core.specs.declared.turned.Turned.TheVariants as turned
use Rattle.session_core.specs.declared.turned.Acted.{Acted}

-- the statement is of this session
pub record IsBy (x : Span) (who : ℕ) : Type 0 where
  pub session : x.session ≡ who
  pub from : 1 ≤ who
  pub to : who ≤ MOST_SESSIONS

-- The insert came past its tests, and its name is that of table o, as it began and now. Nothing of the session's transaction is
-- taken back.
pub record IsInserting (sh : Shape) (x : Span) (name label text : List ℕ) (o : ℕ) : Type 0 where
  pub passed : FirstPass sh x (asked.Insert name label text)
  pub stands : InsertStands x name o
  pub still : table_named x.ended name ≡ Some o
  pub whole : own_backed x.ended x.session ≡ false

abbrev pub refused_as : Refusal → Option ℕ → Result Acted StoreFault
refused_as y own = Ok (record { turned = turned.Over (outcome.Refused y) kept.Nothing; own = own })

abbrev pub not_found : FindFault → Option ℕ → Result Acted StoreFault
not_found (finds.NoSpace need) own = refused_as (why.NoSpace need) own
not_found (finds.MaxExtents count) own = refused_as (why.MaxExtents count) own
not_found (finds.Store fault) own = Err fault

abbrev pub inserted : Done → Acted
inserted d = record { turned = turned.Over (outcome.Inserted d.row) kept.Nothing; own = Some d.txn }

-- the insert goes on where another cause is told, which none is on a true store
abbrev pub told_insert : Result Done ChangeFault → ℕ → Option ℕ → Result Acted StoreFault
told_insert (Ok done) o own = Ok (inserted done)
told_insert (Err (changes.UndoFull holders)) o own = refused_as (why.UndoFull holders) own
told_insert (Err (changes.Store fault)) o own = Err fault
told_insert (Err fault) o own = Ok (record { turned = turned.On (told.Inserting o); own = own })

-- the table of a name, where it passes the tests
abbrev pub tested_named : Option ℕ → Bool → Result ℕ Refusal
tested_named None full = Err why.NoTable
tested_named (Some o) full = cond full (Err why.LogFull) (Ok o)
