-- What a statement has done so far between its events, whatever others did. A refused one has done no more, since an event that
-- refuses adds no record. This engine's own.
use Rattle.std.specs.Prelude.{◌≡◌, ℕ, Bool, true, false, List, length, Option, Some, None}
use Rattle.redo_model.specs.Model.{is_backed, table_named}
use Rattle.redo_laws.specs.Since.{any_since}
use Rattle.session_laws.specs.Sessions.{own_of, own_rows, own_begins}
use Rattle.shrink_laws.specs.Grown.{lowers}
use Rattle.script_text.specs.declared.statement.Statement.{Statement}
use Rattle.script_text.specs.declared.statement.Statement.TheVariants as asked
use Rattle.history_model.specs.Spans.{Span}

-- the session has the transaction that it had, and has changed no row and begun none, since the statement began
pub record IsIdle (x : Span) : Type 0 where
  pub own : own_of x.ended x.session ≡ own_of x.begun x.session
  pub rows : own_rows x.ended x.session ≡ own_rows x.begun x.session
  pub begins : own_begins x.ended x.session ≡ own_begins x.begun x.session

-- no Lower of table o has been added since the statement began
abbrev pub IsUnlowered : Span → ℕ → Type 0
IsUnlowered x o = any_since (lowers o) (length x.begun) x.ended ≡ false

-- a shrink has not lowered yet
pub record ShrinkSoFar (x : Span) (name : List ℕ) : Type 0 where
  pub idle : IsIdle x
  pub unlowered : (o : ℕ) → table_named x.begun name ≡ Some o → IsUnlowered x o

-- a rollback has not ended the transaction yet, which was whole as it began
pub record BackSoFar (x : Span) : Type 0 where
  pub txn : ℕ
  pub own_begun : own_of x.begun x.session ≡ Some txn
  pub whole : is_backed x.begun txn ≡ false
  pub idle : IsIdle x

-- a statement of one event has done nothing; none is the session's end
abbrev pub SoFar : Span → Option Statement → Type 0
SoFar x (Some (asked.Insert name label text)) = IsIdle x
SoFar x (Some (asked.Update name target text)) = IsIdle x
SoFar x (Some (asked.Delete name target)) = IsIdle x
SoFar x (Some asked.Rollback) = BackSoFar x
SoFar x (Some (asked.Scan name)) = IsIdle x
SoFar x (Some (asked.Shrink name compact)) = ShrinkSoFar x name
SoFar x (Some (asked.Repair name)) = IsIdle x
SoFar x None = BackSoFar x
SoFar x st = x.ended ≡ x.begun

-- whether a statement may go on after its first event
abbrev pub has_more_events : Option Statement → Bool
has_more_events (Some (asked.Insert name label text)) = true
has_more_events (Some (asked.Update name target text)) = true
has_more_events (Some (asked.Delete name target)) = true
has_more_events (Some asked.Rollback) = true
has_more_events (Some (asked.Scan name)) = true
has_more_events (Some (asked.Shrink name compact)) = true
has_more_events (Some (asked.Repair name)) = true
has_more_events None = true
has_more_events st = false
