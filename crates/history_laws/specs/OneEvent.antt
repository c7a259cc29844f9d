-- Statements of one event that are accepted: what the event adds is the statement's, and its entry means what it says.
use Rattle.std.specs.Prelude.{◌≡◌, ℕ, Bool, List, ◌∷◌, Option, Some}
use Rattle.seg_words.specs.Types.{Shape, Class as BlockClass}
use Rattle.redo_record.specs.declared.record.Record.TheVariants as made
use Rattle.redo_model.specs.Records.{Record, TableRecord, ExtendRecord, MovementRecord, ClassRecord, CommitRecord}
use Rattle.redo_model.specs.Model.{table_named, kept_class}
use Rattle.session_laws.specs.Sessions.{own_of}
use Rattle.script_text.specs.declared.statement.Statement.{Statement}
use Rattle.script_text.specs.declared.statement.Statement.TheVariants as asked
use Rattle.history_text.specs.declared.outcome.Outcome.{Outcome}
use Rattle.history_text.specs.declared.outcome.Outcome.TheVariants as told
use Rattle.history_model.specs.declared.history.Kept.TheVariants as kept
use Rattle.history_model.specs.Spans.{Span}
use Rattle.history_model.specs.TableMeans.{IsFixedTo}
use Rattle.history_model.specs.Makes.{Makes}
use Rattle.history_model.specs.Means.{Means}
use Rattle.history_laws.specs.Working.{later}

-- its only record
pub record RecordTells (sh : Shape) (x : Span) (st : Statement) (rec : Record) (outcome : Outcome) : Type 0 where
  pub makes : Makes sh x.scripts x.past x.session (Some st) x.ended rec
  pub means : Means sh (later x (rec ∷ x.ended)) (Some st) outcome kept.Nothing

-- a table and its first extent
pub record TableTells (sh : Shape) (x : Span) (name : List ℕ) (pctfree : ℕ) (t : TableRecord) (e : ExtendRecord) : Type 0 where
  pub makes : Makes sh x.scripts x.past x.session (Some (asked.Table name pctfree)) x.ended (made.Table t)
  pub means : Means sh (later x (made.Extend e ∷ made.Table t ∷ x.ended)) (Some (asked.Table name pctfree)) (told.Table name) kept.Nothing

abbrev pub TablesTell : Type 0
TablesTell = (sh : Shape) (x : Span) (name : List ℕ) (pctfree : ℕ) (t : TableRecord) (e : ExtendRecord) → x.ended ≡ x.begun → t.name ≡ name → t.pctfree ≡ pctfree → TableTells sh x name pctfree t e

abbrev pub MovementsTell : Type 0
MovementsTell =
    (sh : Shape) (x : Span) (name : List ℕ) (on : Bool) (m : MovementRecord) → x.ended ≡ x.begun → table_named x.ended name ≡ Some m.obj → m.on ≡ on → RecordTells sh x (asked.Movement name on) (made.Movement m) (told.Movement name on)

abbrev pub CommitsTell : Type 0
CommitsTell = (sh : Shape) (x : Span) (c : CommitRecord) → x.ended ≡ x.begun → own_of x.ended x.session ≡ Some c.txn → RecordTells sh x asked.Commit (made.Commit c) (told.Committed c.number)

-- a fix adds a Class of its block, of the class that is to be kept
abbrev pub FixesTell : Type 0
FixesTell =
    (sh : Shape) (x : Span) (name : List ℕ) (block : ℕ) (value : Option ℕ) (k : ClassRecord) → x.ended ≡ x.begun → table_named x.ended name ≡ Some k.obj → k.dba ≡ block → IsFixedTo x.ended k.obj block value k.class
    → RecordTells sh x (asked.Fix name block value) (made.Class k) (told.Fixed block k.class)

-- or none, where it is kept already
abbrev pub FixedTell : Type 0
FixedTell =
    (sh : Shape) (x : Span) (name : List ℕ) (block : ℕ) (value : Option ℕ) (o : ℕ) (c : BlockClass) → x.ended ≡ x.begun → table_named x.ended name ≡ Some o → c ≡ kept_class x.ended block → IsFixedTo x.ended o block value c
    → Means sh x (Some (asked.Fix name block value)) (told.Fixed block c) kept.Nothing
