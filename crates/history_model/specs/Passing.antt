-- That none of the causes applies which are tested as a statement begins.
use Rattle.std.specs.Prelude.{ℕ, List}
use Rattle.seg_words.specs.Types.{Shape}
use Rattle.script_text.specs.declared.statement.Statement.{Statement}
use Rattle.history_model.specs.Spans.{Span}
use Rattle.history_model.specs.Causes.{IsNoTable, IsTableThere, IsTooManyTables, IsMovementOff, IsTransactionOpen, IsShrinkBusy, IsLogFull, IsNotDataBlock, IsBadValue, IsUnbound}

-- none of the ten applies
pub record FirstPass (sh : Shape) (x : Span) (st : Statement) : Type 0 where
  pub table : IsNoTable x st → ⊥
  pub new_name : IsTableThere x st → ⊥
  pub few_tables : IsTooManyTables x st → ⊥
  pub movement : IsMovementOff x st → ⊥
  pub no_transaction : IsTransactionOpen x st → ⊥
  pub unshrunk : (v : ℕ) → IsShrinkBusy x st v → ⊥
  pub log : IsLogFull x st → ⊥
  pub data_block : (b : ℕ) → IsNotDataBlock sh x st b → ⊥
  pub value : (v : ℕ) → IsBadValue st v → ⊥
  pub label : (l : List ℕ) → IsUnbound x st l → ⊥
