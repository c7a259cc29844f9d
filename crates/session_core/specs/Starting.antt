-- The tests with which a statement begins.
use Rattle.std.specs.Prelude.{◌≡◌, ℕ, Bool, true, ◌≤◌, ltb, List, length, Option, Some, None, Result, Ok, Err}
use Rattle.seg_words.specs.Types.{Shape}
use Rattle.redo_model.specs.Records.{Record}
use Rattle.redo_model.specs.Model.{table_named, table_count}
use Rattle.script_text.specs.declared.statement.Statement.{Statement}
use Rattle.history_text.specs.declared.refusal.Refusal.{Refusal}
use Rattle.history_model.specs.declared.limit.TheConstants.{NEW_WORK_RECORDS}
use Rattle.history_model.specs.Spans.{Span}
use Rattle.history_model.specs.Order.{rank, is_first_tested}
use Rattle.history_model.specs.Causes.{Cause, IsShrunkBy}
use Rattle.history_model.specs.Passing.{FirstPass}
use Rattle.segment_blocks.specs.Types.{table_named as named_entry, table_count as entry_count}
use Rattle.page_set.specs.declared.page.Page.{Page}
use Rattle.page_set.specs.declared.page.Page.TheVariants.{Zero, Catalogue}
use Rattle.session_core.specs.declared.naming.Named.{Named}

-- refused at once: the cause applies, and none before it in the order
pub record IsRefusedFirst (sh : Shape) (x : Span) (st : Statement) (y : Refusal) : Type 0 where
  pub first : is_first_tested y ≡ true
  pub cause : Cause sh x st 0 y
  pub before : (z : Refusal) → ltb (rank z) (rank y) ≡ true → Cause sh x st 0 z → ⊥

abbrev pub IsTested : Shape → Span → Statement → Result (Unit {0}) Refusal → Type 0
IsTested sh x st (Ok u) = FirstPass sh x st
IsTested sh x st (Err y) = IsRefusedFirst sh x st y

-- the session whose shrink of the table is under way, if another session's is
abbrev pub IsBusyBy : Span → List ℕ → Option ℕ → Type 0
IsBusyBy x name None = (v : ℕ) → IsShrunkBy x name v → ⊥
IsBusyBy x name (Some v) = IsShrunkBy x name v

-- ---- what the catalogue says of a name

-- none of a page that isn't one; the page is zeros before the first table
abbrev pub named_in : Page → List ℕ → Option Named
named_in (Zero d) name = Some (record { obj = None; tables = 0 })
named_in (Catalogue c) name = Some (record { obj = named_entry c.entries name; tables = entry_count c.entries })
named_in _ name = None

pub record Names (R : List Record) (name : List ℕ) (n : Named) : Type 0 where
  pub obj : n.obj ≡ table_named R name
  pub tables : n.tables ≡ table_count R

-- ---- whether new work is refused

pub record IsFullAt (R : List Record) (answer : Bool) : Type 0 where
  pub yes_full : answer ≡ true → NEW_WORK_RECORDS ≤ length R
  pub is_full : NEW_WORK_RECORDS ≤ length R → answer ≡ true
