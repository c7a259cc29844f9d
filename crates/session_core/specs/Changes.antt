-- An update or a delete past its tests, and what its events answer.
use Rattle.std.specs.Prelude.{◌≡◌, ◌⊎◌, ℕ, suc, ◌<◌, ◌≤◌, false, [], ◌∷◌, ◌++◌, length, List, Option, Some, None, Result, Ok, Err}
use Rattle.seg_words.specs.Types.{Shape}
use Rattle.redo_model.specs.Model.{table_named}
use Rattle.session_laws.specs.Sessions.{own_backed}
use Rattle.script_text.specs.declared.statement.Statement.{Statement}
use Rattle.script_text.specs.declared.statement.Statement.TheVariants as asked
use Rattle.history_text.specs.declared.outcome.Outcome.TheVariants as outcome
use Rattle.history_text.specs.declared.refusal.Refusal.{Refusal}
use Rattle.history_text.specs.declared.refusal.Refusal.TheVariants as why
use Rattle.history_model.specs.declared.limit.TheConstants.{MOST_STARTS}
use Rattle.history_laws.specs.Starts.{noted}
use Rattle.store_core.specs.declared.fault.StoreFault.{StoreFault}
use Rattle.store_core.specs.declared.fault.StoreFault.TheVariants.{NoMemory}
use Rattle.row_change.specs.declared.answer.Done.{Done}
use Rattle.row_change.specs.declared.answer.ChangeFault.{ChangeFault}
use Rattle.row_change.specs.declared.answer.ChangeFault.TheVariants as changes
use Rattle.session_core.specs.RowWorks.{starts_of, work_of}
use Rattle.history_model.specs.declared.history.Kept.TheVariants as kept
use Rattle.script_text.specs.declared.statement.Target.{Target}
use Rattle.script_text.specs.declared.statement.Target.TheVariants.{Label, Number}
use Rattle.history_model.specs.Spans.{Span, target_row, table_asked, target_asked}
use Rattle.history_model.specs.Causes.{IsLogFull}
use Rattle.history_model.specs.Passing.{FirstPass}
use Rattle.history_laws.specs.Working.{RowWork, RowStands}
use Rattle.row_change.specs.declared.place.Place.{Place}
use Rattle.session_core.specs.declared.session.Doing.TheVariants as told
use Rattle.session_core.specs.declared.session.RowWork.{RowWork as ToldWork}
use Rattle.session_core.specs.declared.turned.Turned.TheVariants as turned
use Rattle.session_core.specs.declared.turned.Acted.{Acted}

-- an update or a delete
abbrev pub IsRowChange : Statement → Type 0
IsRowChange (asked.Update name target text) = Unit {0}
IsRowChange (asked.Delete name target) = Unit {0}
IsRowChange st = ⊥

-- The statement came past its tests and is at this work; the name is that of its table now as well. Nothing of the session's
-- transaction is taken back.
pub record IsChanging (sh : Shape) (x : Span) (st : Statement) (k : RowWork) : Type 0 where
  pub kind : IsRowChange st
  pub passed : FirstPass sh x st
  pub stands : RowStands sh x st k
  pub still : table_named x.ended stands.on.name ≡ Some k.obj
  pub whole : own_backed x.ended x.session ≡ false

abbrev pub refused_as : Refusal → Option ℕ → Acted
refused_as y own = record { turned = turned.Over (outcome.Refused y) kept.Nothing; own = own }

abbrev pub with_place : ToldWork → Place → ToldWork
with_place w p = record { obj = w.obj; row = w.row; starts = w.starts; place = Some p }

abbrev pub told_place : Option Place → ToldWork → Option ℕ → Acted
told_place (Some p) w own = record { turned = turned.On (told.OnRow (with_place w p)); own = own }
told_place None w own = record { turned = turned.Over (outcome.Refused (why.NoRow w.row)) kept.Nothing; own = own }

-- the statement is an update or a delete of this table's row that the target is, by the labels as it started
pub record IsAbout (x : Span) (st : Statement) (name : List ℕ) (target : Target) (bound : Option ℕ) : Type 0 where
  pub kind : IsRowChange st
  pub named : table_asked st ≡ Some name
  pub targeted : target_asked st ≡ Some target
  pub row : target_row x.scripts x.past target ≡ bound

-- its table is there, and the log isn't full
pub record HasPassedTests (x : Span) (st : Statement) (name : List ℕ) (o : ℕ) : Type 0 where
  pub table : table_named x.begun name ≡ Some o
  pub not_full : IsLogFull x st → ⊥

abbrev pub IsUnboundAs : Target → Option ℕ → Result Acted StoreFault → Type 0
IsUnboundAs (Label l) own (Ok a) = a ≡ refused_as (why.Unbound l) own
IsUnboundAs (Number n) own (Ok a) = a ≡ refused_as (why.NoRow n) own
IsUnboundAs target own (Err fault) = fault ≡ NoMemory

-- ---- the row isn't changed

-- the start is noted, and the next event looks for the row again
pub record GoesAgain (w : ToldWork) (c : ℕ) (own : Option ℕ) (a : Acted) : Type 0 where
  pub work : ToldWork
  pub few : suc (length (starts_of w.starts)) < MOST_STARTS
  pub is : a ≡ record { turned = turned.On (told.OnRow work); own = own }
  pub noted_is : work_of work ≡ noted (work_of w) c

-- it was the last start that may be
pub record StopsAgain (w : ToldWork) (c : ℕ) (own : Option ℕ) (a : Acted) : Type 0 where
  pub most : MOST_STARTS ≤ suc (length (starts_of w.starts))
  pub is : a ≡ refused_as (why.Again (starts_of w.starts ++ c ∷ [])) own

abbrev pub StartsAgain : ℕ → ToldWork → Option ℕ → Result Acted StoreFault → Type 0
StartsAgain c w own (Ok a) = GoesAgain w c own a ⊎ StopsAgain w c own a
StartsAgain c w own (Err fault) = fault ≡ NoMemory

abbrev pub IsNotChanged : ChangeFault → ToldWork → Option ℕ → Result Acted StoreFault → Type 0
IsNotChanged (changes.Busy txn) w own r = r ≡ Ok (refused_as (why.Busy txn) own)
IsNotChanged (changes.Changed commits) w own r = StartsAgain commits w own r
IsNotChanged (changes.NoSlot txns) w own r = r ≡ Ok (refused_as (why.NoSlot txns) own)
IsNotChanged (changes.NeedsBlock len) w own r = r ≡ Ok (refused_as (why.NeedsBlock len) own)
IsNotChanged (changes.UndoFull holders) w own r = r ≡ Ok (refused_as (why.UndoFull holders) own)
IsNotChanged (changes.Store fault) w own r = r ≡ Err fault

abbrev pub deleted : Done → Acted
deleted d = record { turned = turned.Over (outcome.Deleted d.row) kept.Nothing; own = Some d.txn }

abbrev pub TellsDelete : Result Done ChangeFault → ToldWork → Option ℕ → Result Acted StoreFault → Type 0
TellsDelete (Ok done) w own r = r ≡ Ok (deleted done)
TellsDelete (Err fault) w own r = IsNotChanged fault w own r
