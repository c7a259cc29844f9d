-- Tests of statements' beginnings.
use Rattle.std.proofs.Common.{◌≡◌, ℕ, ◌≤◌, Bool, true, false, cond, ltb, ltb-true, leb-true, le-leb, List, Option, Some, None, refl, sym, ◌∙◌, subst, arith, true≢false}
use Rattle.std.specs.Prelude.{nat_le, is_some, Ok, Err}
use Rattle.seg_words.specs.Types.{Shape, MOST_TABLES}
use Rattle.redo_model.specs.Records.{Record}
use Rattle.redo_model.specs.Model.{table_count, table_named}
use Rattle.session_laws.specs.Sessions.{own_of}
use Rattle.script_text.specs.declared.statement.Statement.{Statement}
use Rattle.script_text.specs.declared.statement.Statement.TheVariants as asked
use Rattle.history_text.specs.declared.refusal.Refusal.{Refusal}
use Rattle.history_text.specs.declared.refusal.Refusal.TheVariants as why
use Rattle.history_model.specs.Spans.{Span}
use Rattle.history_model.specs.Order.{rank}
use Rattle.history_model.specs.Causes.{IsNoTable, IsTableThere, IsTooManyTables, IsMovementOff, IsTransactionOpen, IsShrinkBusy, IsLogFull, IsNotDataBlock, IsBadValue, IsUnbound, IsShrunkBy, Cause}
use Rattle.history_model.specs.Passing.{FirstPass}
use Rattle.history_laws.specs.Working.{later}
use Rattle.history_laws.proofs.Owned.{none_some}
use Rattle.session_core.specs.declared.naming.Named.{Named}
use Rattle.session_core.specs.Starting.{IsTested, Names, IsFullAt, IsBusyBy, IsRefusedFirst}
use Rattle.session_core.specs.Tests.{tested_full, tested_table, tested_busy, tested_movement}

-- no cause of the first n in the order applies
pub record PassBefore (sh : Shape) (x : Span) (st : Statement) (n : ℕ) : Type 0 where
  pub table : ltb 0 n ≡ true → IsNoTable x st → ⊥
  pub new_name : ltb 1 n ≡ true → IsTableThere x st → ⊥
  pub few_tables : ltb 2 n ≡ true → IsTooManyTables x st → ⊥
  pub movement : ltb 3 n ≡ true → IsMovementOff x st → ⊥
  pub no_transaction : ltb 4 n ≡ true → IsTransactionOpen x st → ⊥
  pub unshrunk : ltb 5 n ≡ true → (v : ℕ) → IsShrinkBusy x st v → ⊥
  pub log : ltb 6 n ≡ true → IsLogFull x st → ⊥
  pub data_block : ltb 7 n ≡ true → (b : ℕ) → IsNotDataBlock sh x st b → ⊥
  pub value : ltb 8 n ≡ true → (v : ℕ) → IsBadValue st v → ⊥
  pub label : ltb 9 n ≡ true → (l : List ℕ) → IsUnbound x st l → ⊥

past_first : (n k : ℕ) → n ≤ 9 → 10 ≤ k → ltb k n ≡ true → ⊥
past_first n k l m e = let b = ltb-true k n e in absurd (omega (arith, l, m, b))

pub pass_before : (sh : Shape) (x : Span) (st : Statement) (n : ℕ) → n ≤ 9 → PassBefore sh x st n → (z : Refusal) → ltb (rank z) n ≡ true → Cause sh x st 0 z → ⊥
pass_before sh x st n l f why.NoTable e h = f.table e h
pass_before sh x st n l f why.TableExists e h = f.new_name e h
pass_before sh x st n l f why.TooManyTables e h = f.few_tables e h
pass_before sh x st n l f why.MovementOff e h = f.movement e h
pass_before sh x st n l f why.TransactionOpen e h = f.no_transaction e h
pass_before sh x st n l f (why.ShrinkBusy v) e h = f.unshrunk e v h
pass_before sh x st n l f why.LogFull e h = f.log e h
pass_before sh x st n l f (why.NotDataBlock b) e h = f.data_block e b h
pass_before sh x st n l f (why.BadValue v) e h = f.value e v h
pass_before sh x st n l f (why.Unbound a) e h = f.label e a h
pass_before sh x st n l f (why.NoRow k) e h = past_first n 10 l (omega arith) e
pass_before sh x st n l f (why.Busy k) e h = past_first n 11 l (omega arith) e
pass_before sh x st n l f (why.Again k) e h = past_first n 12 l (omega arith) e
pass_before sh x st n l f (why.NoSlot k) e h = past_first n 13 l (omega arith) e
pass_before sh x st n l f (why.NoSpace k) e h = past_first n 14 l (omega arith) e
pass_before sh x st n l f (why.MaxExtents k) e h = past_first n 15 l (omega arith) e
pass_before sh x st n l f (why.UndoFull k) e h = past_first n 16 l (omega arith) e
pass_before sh x st n l f (why.ObjectGone k m) e h = past_first n 17 l (omega arith) e
pass_before sh x st n l f (why.TooOld k) e h = past_first n 18 l (omega arith) e
pass_before sh x st n l f (why.TooOldEntry k) e h = past_first n 19 l (omega arith) e
pass_before sh x st n l f (why.NeedsBlock k) e h = past_first n 20 l (omega arith) e

yes : (e : ◌≡◌ {A = Bool} false true) → ⊥
yes e = absurd (true≢false (sym e))

-- ---- options and numbers

pub none_is : (o : Option ℕ) → is_some o ≡ false → o ≡ None
none_is None e = refl
none_is (Some v) e = absurd (true≢false e)

pub record IsSomething (o : Option ℕ) : Type 0 where
  pub it : ℕ
  pub is : o ≡ Some it

pub some_is : (o : Option ℕ) → is_some o ≡ true → IsSomething o
some_is None e = absurd (yes e)
some_is (Some v) e = record { it = v; is = refl }

-- ---- a table

table_full : (sh : Shape) (x : Span) (name : List ℕ) (pctfree : ℕ) (n : Named) (own : Option ℕ) (full : Bool) → Names x.begun name n → own_of x.begun x.session ≡ own → IsFullAt x.begun full → is_some n.obj ≡ false → (MOST_TABLES ≤ table_count x.begun → ⊥) → is_some own ≡ false
    → IsTested sh x (asked.Table name pctfree) (tested_full full)
table_full sh x name pctfree n own full names o f new few none =
    (elim full as (λ v. full ≡ v → IsTested sh x (asked.Table name pctfree) (cond v (Err why.LogFull) (Ok tt))) [
      | true ↦ λ e. record {
        first = refl;
        cause = f.yes_full e;
        before = pass_before sh x (asked.Table name pctfree) 6 (omega arith) (record {
          table = λ _ h. h;
          new_name = λ _ h. not_there h;
          few_tables = λ _ h. few h.1;
          movement = λ _ h. h;
          no_transaction = λ _ h. not_open h;
          unshrunk = λ _ v h. h;
          log = λ b h. yes b;
          data_block = λ b c h. yes b;
          value = λ b c h. yes b;
          label = λ b c h. yes b;
        });
      }
      | false ↦ λ e. record {
        table = λ h. h;
        new_name = λ h. not_there h;
        few_tables = λ h. few h.1;
        movement = λ h. h;
        no_transaction = λ h. not_open h;
        unshrunk = λ v h. h;
        log = λ h. true≢false (sym (f.is_full h) ∙ e);
        data_block = λ b h. h;
        value = λ v h. h;
        label = λ l h. none_some _ _ h.0;
      }
    ]) refl
  where
    not_there : IsTableThere x (asked.Table name pctfree) → ⊥
    not_there h = none_some h.0 _ (sym (none_is n.obj new) ∙ (names.obj ∙ h.1))

    not_open : IsTransactionOpen x (asked.Table name pctfree) → ⊥
    not_open h = none_some h.0 _ (sym (none_is own none) ∙ (sym o ∙ h.1))

table_open : (sh : Shape) (x : Span) (name : List ℕ) (pctfree : ℕ) (n : Named) (own : Option ℕ) (full : Bool) → Names x.begun name n → own_of x.begun x.session ≡ own → IsFullAt x.begun full → is_some n.obj ≡ false → (MOST_TABLES ≤ table_count x.begun → ⊥)
    → IsTested sh x (asked.Table name pctfree) (cond (is_some own) (Err why.TransactionOpen) (tested_full full))
table_open sh x name pctfree n own full names o f new few =
    (elim (is_some own) as (λ v. is_some own ≡ v → IsTested sh x (asked.Table name pctfree) (cond v (Err why.TransactionOpen) (tested_full full))) [
      | true ↦ λ e. record {
        first = refl;
        cause = (let y = some_is own e in (y.it, o ∙ y.is));
        before = pass_before sh x (asked.Table name pctfree) 4 (omega arith) (record {
          table = λ _ h. h;
          new_name = λ _ h. none_some h.0 _ (sym (none_is n.obj new) ∙ (names.obj ∙ h.1));
          few_tables = λ _ h. few h.1;
          movement = λ _ h. h;
          no_transaction = λ b h. yes b;
          unshrunk = λ b v h. yes b;
          log = λ b h. yes b;
          data_block = λ b c h. yes b;
          value = λ b c h. yes b;
          label = λ b c h. yes b;
        });
      }
      | false ↦ λ e. table_full sh x name pctfree n own full names o f new few e
    ]) refl

table_few : (sh : Shape) (x : Span) (name : List ℕ) (pctfree : ℕ) (n : Named) (own : Option ℕ) (full : Bool) → Names x.begun name n → own_of x.begun x.session ≡ own → IsFullAt x.begun full → is_some n.obj ≡ false
    → IsTested sh x (asked.Table name pctfree) (cond (nat_le MOST_TABLES n.tables) (Err why.TooManyTables) (cond (is_some own) (Err why.TransactionOpen) (tested_full full)))
table_few sh x name pctfree n own full names o f new =
    (elim (nat_le MOST_TABLES n.tables) as (λ v. nat_le MOST_TABLES n.tables ≡ v → IsTested sh x (asked.Table name pctfree) (cond v (Err why.TooManyTables) (cond (is_some own) (Err why.TransactionOpen) (tested_full full)))) [
      | true ↦ λ e. record {
        first = refl;
        cause = (sym names.obj ∙ none_is n.obj new, subst (λ (k : ℕ). MOST_TABLES ≤ k) names.tables (leb-true MOST_TABLES n.tables e));
        before = pass_before sh x (asked.Table name pctfree) 2 (omega arith) (record {
          table = λ _ h. h;
          new_name = λ _ h. none_some h.0 _ (sym (none_is n.obj new) ∙ (names.obj ∙ h.1));
          few_tables = λ b h. yes b;
          movement = λ b h. yes b;
          no_transaction = λ b h. yes b;
          unshrunk = λ b v h. yes b;
          log = λ b h. yes b;
          data_block = λ b c h. yes b;
          value = λ b c h. yes b;
          label = λ b c h. yes b;
        });
      }
      | false ↦ λ e. table_open sh x name pctfree n own full names o f new (λ l. true≢false (sym (le-leb MOST_TABLES n.tables (subst (λ (k : ℕ). MOST_TABLES ≤ k) (sym names.tables) l)) ∙ e))
    ]) refl

pub table_tested : (sh : Shape) (x : Span) (name : List ℕ) (pctfree : ℕ) (n : Named) (own : Option ℕ) (full : Bool) → Names x.begun name n → own_of x.begun x.session ≡ own → IsFullAt x.begun full → IsTested sh x (asked.Table name pctfree) (tested_table n (is_some own) full)
table_tested sh x name pctfree n own full names o f =
    (elim (is_some n.obj) as (λ v. is_some n.obj ≡ v → IsTested sh x (asked.Table name pctfree) (cond v (Err why.TableExists) (cond (nat_le MOST_TABLES n.tables) (Err why.TooManyTables) (cond (is_some own) (Err why.TransactionOpen) (tested_full full))))) [
      | true ↦ λ e. record {
        first = refl;
        cause = (let y = some_is n.obj e in (y.it, sym names.obj ∙ y.is));
        before = pass_before sh x (asked.Table name pctfree) 1 (omega arith) (record {
          table = λ _ h. h;
          new_name = λ b h. yes b;
          few_tables = λ b h. yes b;
          movement = λ b h. yes b;
          no_transaction = λ b h. yes b;
          unshrunk = λ b v h. yes b;
          log = λ b h. yes b;
          data_block = λ b c h. yes b;
          value = λ b c h. yes b;
          label = λ b c h. yes b;
        });
      }
      | false ↦ λ e. table_few sh x name pctfree n own full names o f e
    ]) refl

-- that a table passed its tests stays as records are added
pub table_later : (sh : Shape) (x : Span) (E : List Record) (name : List ℕ) (pctfree : ℕ) → FirstPass sh x (asked.Table name pctfree) → FirstPass sh (later x E) (asked.Table name pctfree)
table_later sh x E name pctfree f = record {
  table = λ h. h;
  new_name = λ h. f.new_name h;
  few_tables = λ h. f.few_tables h;
  movement = λ h. h;
  no_transaction = λ h. f.no_transaction h;
  unshrunk = λ v h. h;
  log = λ h. f.log h;
  data_block = λ b h. h;
  value = λ v h. h;
  label = λ l h. none_some _ _ h.0;
}

-- ---- row movement

-- no table of that name
pub movement_untold : (sh : Shape) (x : Span) (name : List ℕ) (on : Bool) → table_named x.begun name ≡ None → IsRefusedFirst sh x (asked.Movement name on) why.NoTable
movement_untold sh x name on e = record {
  first = refl;
  cause = e;
  before = pass_before sh x (asked.Movement name on) 0 (omega arith) (record {
    table = λ b h. yes b;
    new_name = λ b h. yes b;
    few_tables = λ b h. yes b;
    movement = λ b h. yes b;
    no_transaction = λ b h. yes b;
    unshrunk = λ b v h. yes b;
    log = λ b h. yes b;
    data_block = λ b c h. yes b;
    value = λ b c h. yes b;
    label = λ b c h. yes b;
  });
}

movement_full : (sh : Shape) (x : Span) (name : List ℕ) (on : Bool) (o : ℕ) (own : Option ℕ) (full : Bool) → table_named x.begun name ≡ Some o → own_of x.begun x.session ≡ own → IsFullAt x.begun full → is_some own ≡ false → ((v : ℕ) → IsShrunkBy x name v → ⊥) → IsTested sh x (asked.Movement name on) (tested_full full)
movement_full sh x name on o own full there mine f none free =
    (elim full as (λ v. full ≡ v → IsTested sh x (asked.Movement name on) (cond v (Err why.LogFull) (Ok tt))) [
      | true ↦ λ e. record {
        first = refl;
        cause = f.yes_full e;
        before = pass_before sh x (asked.Movement name on) 6 (omega arith) (record {
          table = λ _ h. none_some o _ (sym h ∙ there);
          new_name = λ _ h. h;
          few_tables = λ _ h. h;
          movement = λ _ h. h;
          no_transaction = λ _ h. not_open h;
          unshrunk = λ _ v h. free v h;
          log = λ b h. yes b;
          data_block = λ b c h. yes b;
          value = λ b c h. yes b;
          label = λ b c h. yes b;
        });
      }
      | false ↦ λ e. record {
        table = λ h. none_some o _ (sym h ∙ there);
        new_name = λ h. h;
        few_tables = λ h. h;
        movement = λ h. h;
        no_transaction = λ h. not_open h;
        unshrunk = λ v h. free v h;
        log = λ h. true≢false (sym (f.is_full h) ∙ e);
        data_block = λ b h. h;
        value = λ v h. h;
        label = λ l h. none_some _ _ h.0;
      }
    ]) refl
  where
    not_open : IsTransactionOpen x (asked.Movement name on) → ⊥
    not_open h = none_some h.0 _ (sym (none_is own none) ∙ (sym mine ∙ h.1))

movement_busy : (sh : Shape) (x : Span) (name : List ℕ) (on : Bool) (o : ℕ) (own busy : Option ℕ) (full : Bool) → table_named x.begun name ≡ Some o → own_of x.begun x.session ≡ own → IsFullAt x.begun full → is_some own ≡ false → IsBusyBy x name busy → IsTested sh x (asked.Movement name on) (tested_busy busy full)
movement_busy sh x name on o own None full there mine f none free = movement_full sh x name on o own full there mine f none free
movement_busy sh x name on o own (Some v) full there mine f none shrunk = record {
  first = refl;
  cause = shrunk;
  before = pass_before sh x (asked.Movement name on) 5 (omega arith) (record {
    table = λ _ h. none_some o _ (sym h ∙ there);
    new_name = λ _ h. h;
    few_tables = λ _ h. h;
    movement = λ _ h. h;
    no_transaction = λ _ h. none_some h.0 _ (sym (none_is own none) ∙ (sym mine ∙ h.1));
    unshrunk = λ b v h. yes b;
    log = λ b h. yes b;
    data_block = λ b c h. yes b;
    value = λ b c h. yes b;
    label = λ b c h. yes b;
  });
}

pub movement_tested : (sh : Shape) (x : Span) (name : List ℕ) (on : Bool) (o : ℕ) (own busy : Option ℕ) (full : Bool) → table_named x.begun name ≡ Some o → own_of x.begun x.session ≡ own → IsFullAt x.begun full → IsBusyBy x name busy → IsTested sh x (asked.Movement name on) (tested_movement (is_some own) busy full)
movement_tested sh x name on o own busy full there mine f shrunk =
    (elim (is_some own) as (λ v. is_some own ≡ v → IsTested sh x (asked.Movement name on) (cond v (Err why.TransactionOpen) (tested_busy busy full))) [
      | true ↦ λ e. record {
        first = refl;
        cause = (let y = some_is own e in (y.it, mine ∙ y.is));
        before = pass_before sh x (asked.Movement name on) 4 (omega arith) (record {
          table = λ _ h. none_some o _ (sym h ∙ there);
          new_name = λ _ h. h;
          few_tables = λ _ h. h;
          movement = λ _ h. h;
          no_transaction = λ b h. yes b;
          unshrunk = λ b v h. yes b;
          log = λ b h. yes b;
          data_block = λ b c h. yes b;
          value = λ b c h. yes b;
          label = λ b c h. yes b;
        });
      }
      | false ↦ λ e. movement_busy sh x name on o own busy full there mine f e shrunk
    ]) refl

shrunk_earlier : (x : Span) (E : List Record) (name : List ℕ) (v : ℕ) → IsShrunkBy (later x E) name v → IsShrunkBy x name v
shrunk_earlier x E name v h = record { other = h.other; task = h.task; under = h.under; its_name = h.its_name; compact = h.compact; statement = h.statement; obj = h.obj; its_table = h.its_table; table = h.table }

pub movement_later : (sh : Shape) (x : Span) (E : List Record) (name : List ℕ) (on : Bool) → FirstPass sh x (asked.Movement name on) → FirstPass sh (later x E) (asked.Movement name on)
movement_later sh x E name on f = record {
  table = λ h. f.table h;
  new_name = λ h. h;
  few_tables = λ h. h;
  movement = λ h. h;
  no_transaction = λ h. f.no_transaction h;
  unshrunk = λ v h. f.unshrunk v (shrunk_earlier x E name v h);
  log = λ h. f.log h;
  data_block = λ b h. h;
  value = λ v h. h;
  label = λ l h. none_some _ _ h.0;
}
