-- The tests with which a statement on a table's rows begins.
use Rattle.std.proofs.Common.{◌≡◌, ℕ, ◌≤◌, Bool, true, false, cond, List, length, Option, Some, None, refl, sym, ◌∙◌, ap, subst, arith, true≢false}
use Rattle.std.specs.Prelude.{Result, Ok, Err}
use Rattle.seg_words.specs.Types.{Shape}
use Rattle.redo_model.specs.Model.{table_named}
use Rattle.script_text.specs.declared.statement.Statement.{Statement}
use Rattle.script_text.specs.declared.statement.Statement.TheVariants as asked
use Rattle.script_text.specs.declared.statement.Target.{Target}
use Rattle.history_text.specs.declared.refusal.Refusal.{Refusal}
use Rattle.history_text.specs.declared.refusal.Refusal.TheVariants as why
use Rattle.history_model.specs.declared.limit.TheConstants.{NEW_WORK_RECORDS}
use Rattle.history_model.specs.Spans.{Span, table_asked}
use Rattle.history_model.specs.Causes.{IsNoTable, IsTableThere, IsTooManyTables, IsMovementOff, IsTransactionOpen, IsShrinkBusy, IsLogFull, IsNotDataBlock, IsBadValue, IsUnbound}
use Rattle.history_model.specs.Passing.{FirstPass}
use Rattle.history_laws.proofs.Owned.{none_some, same_some}
use Rattle.session_core.specs.Starting.{IsRefusedFirst, IsFullAt}
use Rattle.session_core.specs.Inserts.{tested_named}
use Rattle.session_core.specs.Changes.{HasPassedTests, IsRowChange}
use Rattle.session_core.proofs.Checks.{pass_before}

-- what is tested of the statement: its table, by its name, and the log
pub record IsOfRows (sh : Shape) (x : Span) (st : Statement) (name : List ℕ) : Type 0 where
  pub absent : table_named x.begun name ≡ None → IsNoTable x st
  pub there : IsNoTable x st → table_named x.begun name ≡ None
  pub new_name : IsTableThere x st → ⊥
  pub few_tables : IsTooManyTables x st → ⊥
  pub movement : IsMovementOff x st → ⊥
  pub no_transaction : IsTransactionOpen x st → ⊥
  pub unshrunk : (v : ℕ) → IsShrinkBusy x st v → ⊥
  pub full : NEW_WORK_RECORDS ≤ length x.begun → IsLogFull x st
  pub log : IsLogFull x st → NEW_WORK_RECORDS ≤ length x.begun
  pub data_block : (b : ℕ) → IsNotDataBlock sh x st b → ⊥
  pub value : (v : ℕ) → IsBadValue st v → ⊥

pub insert_of_rows : (sh : Shape) (x : Span) (name label text : List ℕ) → IsOfRows sh x (asked.Insert name label text) name
insert_of_rows sh x name label text = record { absent = λ h. h; there = λ h. h; new_name = λ h. h; few_tables = λ h. h; movement = λ h. h; no_transaction = λ h. h; unshrunk = λ v h. h; full = λ h. h; log = λ h. h; data_block = λ b h. h; value = λ v h. h }

pub update_of_rows : (sh : Shape) (x : Span) (name : List ℕ) (target : Target) (text : List ℕ) → IsOfRows sh x (asked.Update name target text) name
update_of_rows sh x name target text = record { absent = λ h. h; there = λ h. h; new_name = λ h. h; few_tables = λ h. h; movement = λ h. h; no_transaction = λ h. h; unshrunk = λ v h. h; full = λ h. h; log = λ h. h; data_block = λ b h. h; value = λ v h. h }

pub delete_of_rows : (sh : Shape) (x : Span) (name : List ℕ) (target : Target) → IsOfRows sh x (asked.Delete name target) name
delete_of_rows sh x name target = record { absent = λ h. h; there = λ h. h; new_name = λ h. h; few_tables = λ h. h; movement = λ h. h; no_transaction = λ h. h; unshrunk = λ v h. h; full = λ h. h; log = λ h. h; data_block = λ b h. h; value = λ v h. h }

yes : (e : ◌≡◌ {A = Bool} false true) → ⊥
yes e = absurd (true≢false (sym e))

same_err : (y z : Refusal) → ◌≡◌ {A = Result ℕ Refusal} (Err y) (Err z) → y ≡ z
same_err y z e = cc

same_ok : (o p : ℕ) → ◌≡◌ {A = Result ℕ Refusal} (Ok o) (Ok p) → o ≡ p
same_ok o p e = cc

-- ---- it is refused

no_table_first : (sh : Shape) (x : Span) (st : Statement) (name : List ℕ) → IsOfRows sh x st name → table_named x.begun name ≡ None → IsRefusedFirst sh x st why.NoTable
no_table_first sh x st name k e = record {
  first = refl;
  cause = k.absent e;
  before = pass_before sh x st 0 (omega arith) (record {
    table = λ b h. yes b;
    new_name = λ b h. yes b;
    few_tables = λ b h. yes b;
    movement = λ b h. yes b;
    no_transaction = λ b h. yes b;
    unshrunk = λ b v h. yes b;
    log = λ b h. yes b;
    data_block = λ b c h. yes b;
    value = λ b c h. yes b;
    label = λ b c h. yes b;
  });
}

log_full_first : (sh : Shape) (x : Span) (st : Statement) (name : List ℕ) (o : ℕ) → IsOfRows sh x st name → table_named x.begun name ≡ Some o → NEW_WORK_RECORDS ≤ length x.begun → IsRefusedFirst sh x st why.LogFull
log_full_first sh x st name o k e l = record {
  first = refl;
  cause = k.full l;
  before = pass_before sh x st 6 (omega arith) (record {
    table = λ _ h. none_some o ⊥ (sym (k.there h) ∙ e);
    new_name = λ _ h. k.new_name h;
    few_tables = λ _ h. k.few_tables h;
    movement = λ _ h. k.movement h;
    no_transaction = λ _ h. k.no_transaction h;
    unshrunk = λ _ v h. k.unshrunk v h;
    log = λ b h. yes b;
    data_block = λ b c h. yes b;
    value = λ b c h. yes b;
    label = λ b c h. yes b;
  });
}

pub rows_refused : (sh : Shape) (x : Span) (st : Statement) (name : List ℕ) (obj : Option ℕ) (full : Bool) (y : Refusal) → IsOfRows sh x st name → obj ≡ table_named x.begun name → IsFullAt x.begun full → tested_named obj full ≡ Err y → IsRefusedFirst sh x st y
rows_refused sh x st name None full y k o f e = subst (IsRefusedFirst sh x st) (same_err why.NoTable y e) (no_table_first sh x st name k (sym o))
rows_refused sh x st name (Some p) full y k o f e =
    (elim full as (λ v. full ≡ v → ◌≡◌ {A = Result ℕ Refusal} (cond v (Err why.LogFull) (Ok p)) (Err y) → IsRefusedFirst sh x st y) [
      | true ↦ λ t g. subst (IsRefusedFirst sh x st) (same_err why.LogFull y g) (log_full_first sh x st name p k (sym o) (f.yes_full t))
      | false ↦ λ t g. absurd cc
    ]) refl e

-- ---- it passes

pub rows_passed : (sh : Shape) (x : Span) (st : Statement) (name : List ℕ) (obj : Option ℕ) (full : Bool) (o : ℕ) → IsOfRows sh x st name → obj ≡ table_named x.begun name → IsFullAt x.begun full → tested_named obj full ≡ Ok o → HasPassedTests x st name o
rows_passed sh x st name None full o k n f e = absurd cc
rows_passed sh x st name (Some p) full o k n f e =
    (elim full as (λ v. full ≡ v → ◌≡◌ {A = Result ℕ Refusal} (cond v (Err why.LogFull) (Ok p)) (Ok o) → HasPassedTests x st name o) [
      | true ↦ λ t g. absurd cc
      | false ↦ λ t g. record { table = sym n ∙ ap (λ (z : ℕ). Some z) (same_ok p o g); not_full = λ h. true≢false (sym (f.is_full (k.log h)) ∙ t) }
    ]) refl e

-- so no first cause applies where its label, if it has one, is bound
pub rows_first : (sh : Shape) (x : Span) (st : Statement) (name : List ℕ) (o : ℕ) → IsOfRows sh x st name → HasPassedTests x st name o → ((l : List ℕ) → IsUnbound x st l → ⊥) → FirstPass sh x st
rows_first sh x st name o k p b = record {
  table = λ h. none_some o ⊥ (sym (k.there h) ∙ p.table);
  new_name = k.new_name;
  few_tables = k.few_tables;
  movement = k.movement;
  no_transaction = k.no_transaction;
  unshrunk = k.unshrunk;
  log = p.not_full;
  data_block = k.data_block;
  value = k.value;
  label = b;
}

-- ---- an update or a delete

pub change_of_rows : (sh : Shape) (x : Span) (st : Statement) (name : List ℕ) → IsRowChange st → table_asked st ≡ Some name → IsOfRows sh x st name
change_of_rows sh x (asked.Update n target text) name k e = subst (λ (m : List ℕ). IsOfRows sh x (asked.Update n target text) m) (same_some n name e) (update_of_rows sh x n target text)
change_of_rows sh x (asked.Delete n target) name k e = subst (λ (m : List ℕ). IsOfRows sh x (asked.Delete n target) m) (same_some n name e) (delete_of_rows sh x n target)
change_of_rows sh x st name k e = absurd k

pub unbound_first : (sh : Shape) (x : Span) (st : Statement) (name l : List ℕ) (o : ℕ) → IsOfRows sh x st name → HasPassedTests x st name o → IsUnbound x st l → IsRefusedFirst sh x st (why.Unbound l)
unbound_first sh x st name l o k p u = record {
  first = refl;
  cause = u;
  before = pass_before sh x st 9 (omega arith) (record {
    table = λ _ h. none_some o ⊥ (sym (k.there h) ∙ p.table);
    new_name = λ _ h. k.new_name h;
    few_tables = λ _ h. k.few_tables h;
    movement = λ _ h. k.movement h;
    no_transaction = λ _ h. k.no_transaction h;
    unshrunk = λ _ v h. k.unshrunk v h;
    log = λ _ h. p.not_full h;
    data_block = λ _ c h. k.data_block c h;
    value = λ _ c h. k.value c h;
    label = λ b c h. yes b;
  });
}
