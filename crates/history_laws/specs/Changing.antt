-- The last event of an insert, an update or a delete that is accepted: the records that it adds are its statement's, and its
-- entry means what it says.
use Rattle.std.specs.Prelude.{◌≡◌, ℕ, suc, List, ◌∷◌, length, MatchOption, Option, Some, None}
use Rattle.seg_words.specs.Types.{Shape}
use Rattle.redo_record.specs.declared.record.Record.TheVariants as made
use Rattle.redo_model.specs.Records.{Record, BeginRecord, ReuseRecord}
use Rattle.redo_model.specs.Model.{row_count, table_named}
use Rattle.session_laws.specs.Sessions.{own_of}
use Rattle.change_laws.specs.Drafts.{Change, insert_of, delete_of, Stand}
use Rattle.change_laws.specs.Spots.{list_with}
use Rattle.change_laws.specs.Ready.{path_of, StandsAt}
use Rattle.change_laws.specs.Answers.{change_by}
use Rattle.script_text.specs.declared.statement.Statement.{Statement}
use Rattle.script_text.specs.declared.statement.Statement.TheVariants as asked
use Rattle.script_text.specs.declared.statement.Target.{Target}
use Rattle.history_text.specs.declared.outcome.Outcome.{Outcome}
use Rattle.history_text.specs.declared.outcome.Outcome.TheVariants as told
use Rattle.history_model.specs.declared.history.Kept.TheVariants as kept
use Rattle.history_model.specs.Spans.{Span, own_then}
use Rattle.history_model.specs.SoFar.{IsIdle}
use Rattle.history_model.specs.Causes.{IsOnRow, IsFound}
pub use Rattle.history_model.specs.RowMeans.{with_begin, with_reuse}
use Rattle.history_model.specs.Makes.{Makes}
use Rattle.history_model.specs.Means.{Means}
use Rattle.history_laws.specs.Working.{later, InsertStands}

-- ---- the records of a change by session w

-- transaction t begins for session w
pub record BeginsFor (Q : List Record) (w t : ℕ) (before : List Record) : Type 0 where
  pub begin : BeginRecord
  pub session : begin.session ≡ w
  pub txn : begin.txn ≡ t
  pub is : before ≡ made.Begin begin ∷ Q

-- or the session has it
pub record IsOwnTxn (Q : List Record) (own t : ℕ) (before : List Record) : Type 0 where
  pub txn : t ≡ own
  pub is : before ≡ Q

abbrev pub IsBegunFor : List Record → ℕ → ℕ → Option ℕ → List Record → Type 0
IsBegunFor Q w t None before = BeginsFor Q w t before
IsBegunFor Q w t (Some own) before = IsOwnTxn Q own t before

-- next is Q with the change, by the session's transaction, and with what has to stand before it
pub record AddsChange (sh : Shape) (Q : List Record) (w : ℕ) (c : Change) (next : List Record) : Type 0 where
  pub txn : ℕ
  pub before : List Record
  pub begins : IsBegunFor Q w txn (own_of Q w) before
  pub list_is : list_with sh before txn c ≡ Some next

-- ---- what follows

-- the statement makes the Begin and the record of the change, between which perhaps a Reuse stands
pub record MakesChange (sh : Shape) (x : Span) (st : Statement) (next : List Record) : Type 0 where
  pub begin : Option BeginRecord
  pub reuse : Option ReuseRecord
  pub rec : Record
  pub next_is : next ≡ rec ∷ with_reuse reuse (with_begin begin x.ended)
  pub begins : MatchOption begin (Unit {0}) (λ g. Makes sh x.scripts x.past x.session (Some st) x.ended (made.Begin g))
  pub makes : Makes sh x.scripts x.past x.session (Some st) (with_reuse reuse (with_begin begin x.ended)) rec

-- and its entry means this
pub record ChangeTells (sh : Shape) (x : Span) (st : Statement) (next : List Record) (outcome : Outcome) : Type 0 where
  pub made : MakesChange sh x st next
  pub means : Means sh (later x next) (Some st) outcome kept.Nothing

abbrev pub InsertsTell : Type 0
InsertsTell =
    (sh : Shape) (x : Span) (name label text : List ℕ) (o b : ℕ) (next : List Record) → InsertStands x name o → table_named x.ended name ≡ Some o → IsFound sh x (asked.Insert name label text) b
    → AddsChange sh x.ended x.session (insert_of x.ended o b text) next
    → ChangeTells sh x (asked.Insert name label text) next (told.Inserted (suc (row_count x.ended)))

abbrev pub UpdatesTell : Type 0
UpdatesTell =
    (sh : Shape) (x : Span) (name : List ℕ) (target : Target) (text : List ℕ) (o n : ℕ) (s : Stand) (to : Option ℕ) (c : Change) (next : List Record) → IsOnRow x (asked.Update name target text) o n → IsIdle x → table_named x.ended name ≡ Some o
    → StandsAt x.ended n s → MatchOption to (Unit {0}) (λ b. IsFound sh x (asked.Update name target text) b) → change_by x.ended o n s text to (path_of x.ended (own_then x) s (length text)) ≡ Some c → AddsChange sh x.ended x.session c next → ChangeTells sh x (asked.Update name target text) next (told.Updated n)

abbrev pub DeletesTell : Type 0
DeletesTell =
    (sh : Shape) (x : Span) (name : List ℕ) (target : Target) (o n : ℕ) (s : Stand) (next : List Record) → IsOnRow x (asked.Delete name target) o n → IsIdle x → table_named x.ended name ≡ Some o
    → AddsChange sh x.ended x.session (delete_of o n s) next → ChangeTells sh x (asked.Delete name target) next (told.Deleted n)
