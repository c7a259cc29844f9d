-- The records of tables and marks are allowed where their movement is the next one, and no others are.
use Rattle.std.specs.Prelude.{◌≡◌, ℕ, ◌<◌, ◌≤◌, Bool, true, false, eqb, List, ◌∷◌, Some, None}
use Rattle.seg_words.specs.Types.{Shape, is_name, is_shape, MOST_PCTFREE, MOST_TABLES}
use Rattle.redo_model.specs.Records.{Record, Table, Movement, Extend, FormatBlock, Advance, TableRecord, MovementRecord}
use Rattle.redo_model.specs.Model.{IsTable, table_count, table_named, IsAllowed, IsLawful}
use Rattle.mark_laws.specs.declared.step.MarkStep.{MarkStep}
use Rattle.mark_laws.specs.Movements.{least_free, next_mark}
use Rattle.mark_laws.specs.Drafts.{mark_record, drafted_movement, drafted_table, drafted_first}

-- the record is one that moves the marks of table o
abbrev pub moves_marks : Record → ℕ → Bool
moves_marks (FormatBlock f) o = eqb f.obj o
moves_marks (Advance a) o = eqb a.obj o
moves_marks (Extend e) o = eqb e.obj o
moves_marks _ o = false

-- the record is the drafted one of the next movement
pub record IsMarkRecord (sh : Shape) (R : List Record) (o : ℕ) (r : Record) : Type 0 where
  pub move : MarkStep
  pub next : next_mark sh R o ≡ Some move
  pub is : r ≡ mark_record sh R o move

pub record MarkRecords (sh : Shape) (R : List Record) (o : ℕ) : Type 0 where
  pub allowed : (m : MarkStep) → next_mark sh R o ≡ Some m → IsAllowed sh R (mark_record sh R o m)
  pub lawful : (m : MarkStep) → next_mark sh R o ≡ Some m → IsLawful sh (mark_record sh R o m ∷ R)
  pub only : (r : Record) → moves_marks r o ≡ true → IsAllowed sh R r → IsMarkRecord sh R o r

-- the next movement of the marks has an allowed record, and that alone; where there is none, no record is allowed
abbrev pub MarksAreAllowed : Type 0
MarksAreAllowed = (sh : Shape) (R : List Record) (o : ℕ) → is_shape sh ≡ true → IsLawful sh R → IsTable R o → MarkRecords sh R o

-- a new table of this name may be made
pub record MayMake (R : List Record) (name : List ℕ) (percent : ℕ) : Type 0 where
  pub named : is_name name ≡ true
  pub new_name : table_named R name ≡ None
  pub few : table_count R < MOST_TABLES
  pub pctfree : percent ≤ MOST_PCTFREE

-- both its records, one after the other
pub record MakesTable (sh : Shape) (R : List Record) (name : List ℕ) (pctfree x : ℕ) : Type 0 where
  pub table : IsAllowed sh R (Table (drafted_table sh R name pctfree x))
  pub first : IsAllowed sh (Table (drafted_table sh R name pctfree x) ∷ R) (Extend (drafted_first sh R x))
  pub lawful : IsLawful sh (Extend (drafted_first sh R x) ∷ Table (drafted_table sh R name pctfree x) ∷ R)

-- the Table record is the drafted one, over the least free extent
pub record IsDraftedTable (sh : Shape) (R : List Record) (t : TableRecord) : Type 0 where
  pub extent : ℕ
  pub least : least_free sh R ≡ Some extent
  pub is : t ≡ drafted_table sh R t.name t.pctfree extent

pub record TableRecords (sh : Shape) (R : List Record) : Type 0 where
  pub made : (name : List ℕ) (pctfree x : ℕ) → MayMake R name pctfree → least_free sh R ≡ Some x → MakesTable sh R name pctfree x
  pub only : (t : TableRecord) → IsAllowed sh R (Table t) → IsDraftedTable sh R t

-- a new table takes the least free extent; where none is free, no table can be made
abbrev pub TablesAreMade : Type 0
TablesAreMade = (sh : Shape) (R : List Record) → is_shape sh ≡ true → IsLawful sh R → TableRecords sh R

pub record MovementRecords (sh : Shape) (R : List Record) (o : ℕ) : Type 0 where
  pub allowed : (on : Bool) → IsAllowed sh R (Movement (drafted_movement sh R o on))
  pub lawful : (on : Bool) → IsLawful sh (Movement (drafted_movement sh R o on) ∷ R)
  pub only : (m : MovementRecord) → m.obj ≡ o → IsAllowed sh R (Movement m) → m ≡ drafted_movement sh R o m.on

-- row movement can be turned on and off at any time
abbrev pub MovementsAreAllowed : Type 0
MovementsAreAllowed = (sh : Shape) (R : List Record) (o : ℕ) → IsLawful sh R → IsTable R o → MovementRecords sh R o
