-- What the making of a table adds and answers.
use Rattle.std.specs.Prelude.{◌≡◌, ℕ, suc, false, List, ◌∷◌, Option, Some, None, Result, Ok, Err}
use Rattle.seg_words.specs.Types.{Shape}
use Rattle.redo_model.specs.Records.{Record, Table, Extend}
use Rattle.redo_model.specs.Model.{table_count, is_free_extent, IsLeastFree}
use Rattle.mark_laws.specs.Movements.{least_free}
use Rattle.mark_laws.specs.Drafts.{drafted_table, drafted_first}
use Rattle.store_core.specs.declared.fault.StoreFault.{StoreFault}
use Rattle.mark_move.specs.declared.fault.MarkFault.{MarkFault}
use Rattle.mark_move.specs.declared.fault.MarkFault.TheVariants as faults
use Rattle.mark_move.specs.declared.tables.Drafted.{Drafted}

-- the next table, with this extent
abbrev pub with_table_in : Shape → List Record → List ℕ → ℕ → ℕ → List Record
with_table_in sh R name pctfree x = Extend (drafted_first sh R x) ∷ Table (drafted_table sh R name pctfree x) ∷ R

abbrev pub with_table_where : Shape → List Record → List ℕ → ℕ → Option ℕ → List Record
with_table_where sh R name pctfree None = R
with_table_where sh R name pctfree (Some x) = with_table_in sh R name pctfree x

-- with the least free extent; nothing where none is free
abbrev pub with_table : Shape → List Record → List ℕ → ℕ → List Record
with_table sh R name pctfree = with_table_where sh R name pctfree (least_free sh R)

-- the table's number and its two records
pub record DraftsTable (sh : Shape) (R : List Record) (name : List ℕ) (percent x : ℕ) (d : Drafted) : Type 0 where
  pub obj : d.obj ≡ suc (table_count R)
  pub table : d.table ≡ Table (drafted_table sh R name percent x)
  pub first : d.first ≡ Extend (drafted_first sh R x)

pub record NextTable (sh : Shape) (R : List Record) (o : ℕ) : Type 0 where
  pub next : o ≡ suc (table_count R)
  pub extent : ℕ
  pub least : IsLeastFree sh R extent

pub record NoneFree (sh : Shape) (R : List Record) (required : ℕ) : Type 0 where
  pub none : (x : ℕ) → is_free_extent sh R x ≡ false
  pub no_row : required ≡ 0

-- the table's number, where an extent is free; a refusal where none is
abbrev pub AnswersTable : Shape → List Record → Result ℕ MarkFault → Type 0
AnswersTable sh R (Ok o) = NextTable sh R o
AnswersTable sh R (Err (faults.NoSpace need)) = NoneFree sh R need
AnswersTable sh R (Err (faults.Store fault)) = Unit {0}

-- what of the answer is the store's: a refusal for want of space went well
abbrev pub store_part : Result ℕ MarkFault → Result (Unit {0}) StoreFault
store_part (Ok o) = Ok tt
store_part (Err (faults.NoSpace need)) = Ok tt
store_part (Err (faults.Store fault)) = Err fault
