-- The tests with which a shrink begins.
use Rattle.std.proofs.Common.{◌≡◌, ℕ, Bool, true, false, cond, ltb, List, Option, Some, None, refl, sym, ◌∙◌, ap, arith, true≢false}
use Rattle.std.specs.Prelude.{is_some, Ok, Err}
use Rattle.seg_words.specs.Types.{Shape}
use Rattle.redo_model.specs.Model.{table_named, has_movement, HasMovement}
use Rattle.session_laws.specs.Sessions.{own_of}
use Rattle.script_text.specs.declared.statement.Statement.TheVariants as asked
use Rattle.history_text.specs.declared.refusal.Refusal.TheVariants as why
use Rattle.history_model.specs.Spans.{Span}
use Rattle.history_model.specs.Causes.{IsNoTable, IsMovementOff, IsTransactionOpen, IsShrinkBusy, IsLogFull, IsShrunkBy}
use Rattle.history_laws.proofs.Owned.{none_some, same_some}
use Rattle.session_core.specs.Starting.{IsTested, IsFullAt, IsBusyBy, IsRefusedFirst}
use Rattle.session_core.specs.Tests.{tested_full, tested_busy, tested_movement}
use Rattle.session_core.proofs.Checks.{PassBefore, pass_before, none_is, some_is}

yes : (P : Type 0) → ◌≡◌ {A = Bool} false true → P
yes P e = absurd (true≢false (sym e))

-- the causes of the first n in the order that a shrink can have don't apply
shrink_before : (sh : Shape) (x : Span) (name : List ℕ) (compact : Bool) (n : ℕ) → (ltb 0 n ≡ true → IsNoTable x (asked.Shrink name compact) → ⊥) → (ltb 3 n ≡ true → IsMovementOff x (asked.Shrink name compact) → ⊥) → (ltb 4 n ≡ true → IsTransactionOpen x (asked.Shrink name compact) → ⊥)
    → (ltb 5 n ≡ true → (v : ℕ) → IsShrinkBusy x (asked.Shrink name compact) v → ⊥) → (ltb 6 n ≡ true → IsLogFull x (asked.Shrink name compact) → ⊥) → PassBefore sh x (asked.Shrink name compact) n
shrink_before sh x name compact n t m o s l = record {
  table = t;
  new_name = λ b h. h;
  few_tables = λ b h. h;
  movement = m;
  no_transaction = o;
  unshrunk = s;
  log = l;
  data_block = λ b c h. h;
  value = λ b c h. h;
  label = λ b c h. none_some _ _ h.0;
}

pub no_shrink_table : (sh : Shape) (x : Span) (name : List ℕ) (compact : Bool) → table_named x.begun name ≡ None → IsRefusedFirst sh x (asked.Shrink name compact) why.NoTable
no_shrink_table sh x name compact e = record {
  first = refl;
  cause = e;
  before = pass_before sh x (asked.Shrink name compact) 0 (omega arith) (shrink_before sh x name compact 0 (λ b h. yes _ b) (λ b h. yes _ b) (λ b h. yes _ b) (λ b v h. yes _ b) (λ b h. yes _ b));
}

there_is : (x : Span) (name : List ℕ) (o : ℕ) → table_named x.begun name ≡ Some o → table_named x.begun name ≡ None → ⊥
there_is x name o t e = none_some o _ (sym e ∙ t)

pub movement_is_off : (sh : Shape) (x : Span) (name : List ℕ) (compact : Bool) (o : ℕ) → table_named x.begun name ≡ Some o → has_movement x.begun o ≡ false → IsRefusedFirst sh x (asked.Shrink name compact) why.MovementOff
movement_is_off sh x name compact o t off = record {
  first = refl;
  cause = (o, t, off);
  before = pass_before sh x (asked.Shrink name compact) 3 (omega arith) (shrink_before sh x name compact 3 (λ b h. there_is x name o t h) (λ b h. yes _ b) (λ b h. yes _ b) (λ b v h. yes _ b) (λ b h. yes _ b));
}

-- row movement of the table is on
movement_is_on : (x : Span) (name : List ℕ) (compact : Bool) (o : ℕ) → table_named x.begun name ≡ Some o → HasMovement x.begun o → IsMovementOff x (asked.Shrink name compact) → ⊥
movement_is_on x name compact o t on (p, u, off) = true≢false (sym on ∙ (ap (has_movement x.begun) (same_some o p (sym t ∙ u)) ∙ off))

shrink_full : (sh : Shape) (x : Span) (name : List ℕ) (compact : Bool) (o : ℕ) (own : Option ℕ) (full : Bool) → table_named x.begun name ≡ Some o → HasMovement x.begun o → own_of x.begun x.session ≡ own → IsFullAt x.begun full → is_some own ≡ false → ((v : ℕ) → IsShrunkBy x name v → ⊥)
    → IsTested sh x (asked.Shrink name compact) (tested_full full)
shrink_full sh x name compact o own full t on mine f none free =
    (elim full as (λ v. full ≡ v → IsTested sh x (asked.Shrink name compact) (cond v (Err why.LogFull) (Ok tt))) [
      | true ↦ λ e. record {
        first = refl;
        cause = f.yes_full e;
        before = pass_before sh x (asked.Shrink name compact) 6 (omega arith)
            (shrink_before sh x name compact 6 (λ b h. there_is x name o t h) (λ b h. movement_is_on x name compact o t on h) (λ b h. not_open h) (λ b v h. free v h) (λ b h. yes _ b));
      }
      | false ↦ λ e. record {
        table = λ h. there_is x name o t h;
        new_name = λ h. h;
        few_tables = λ h. h;
        movement = λ h. movement_is_on x name compact o t on h;
        no_transaction = λ h. not_open h;
        unshrunk = λ v h. free v h;
        log = λ h. true≢false (sym (f.is_full h) ∙ e);
        data_block = λ b h. h;
        value = λ v h. h;
        label = λ l h. none_some _ _ h.0;
      }
    ]) refl
  where
    not_open : IsTransactionOpen x (asked.Shrink name compact) → ⊥
    not_open h = none_some h.0 _ (sym (none_is own none) ∙ (sym mine ∙ h.1))

shrink_busy : (sh : Shape) (x : Span) (name : List ℕ) (compact : Bool) (o : ℕ) (own busy : Option ℕ) (full : Bool) → table_named x.begun name ≡ Some o → HasMovement x.begun o → own_of x.begun x.session ≡ own → IsFullAt x.begun full → is_some own ≡ false → IsBusyBy x name busy
    → IsTested sh x (asked.Shrink name compact) (tested_busy busy full)
shrink_busy sh x name compact o own None full t on mine f none free = shrink_full sh x name compact o own full t on mine f none free
shrink_busy sh x name compact o own (Some v) full t on mine f none shrunk = record {
  first = refl;
  cause = shrunk;
  before = pass_before sh x (asked.Shrink name compact) 5 (omega arith)
      (shrink_before sh x name compact 5 (λ b h. there_is x name o t h) (λ b h. movement_is_on x name compact o t on h) (λ b h. none_some h.0 _ (sym (none_is own none) ∙ (sym mine ∙ h.1))) (λ b w h. yes _ b) (λ b h. yes _ b));
}

pub shrink_tested : (sh : Shape) (x : Span) (name : List ℕ) (compact : Bool) (o : ℕ) (own busy : Option ℕ) (full : Bool) → table_named x.begun name ≡ Some o → HasMovement x.begun o → own_of x.begun x.session ≡ own → IsFullAt x.begun full → IsBusyBy x name busy
    → IsTested sh x (asked.Shrink name compact) (tested_movement (is_some own) busy full)
shrink_tested sh x name compact o own busy full t on mine f shrunk =
    (elim (is_some own) as (λ v. is_some own ≡ v → IsTested sh x (asked.Shrink name compact) (cond v (Err why.TransactionOpen) (tested_busy busy full))) [
      | true ↦ λ e. record {
        first = refl;
        cause = (let y = some_is own e in (y.it, mine ∙ y.is));
        before = pass_before sh x (asked.Shrink name compact) 4 (omega arith)
            (shrink_before sh x name compact 4 (λ b h. there_is x name o t h) (λ b h. movement_is_on x name compact o t on h) (λ b h. yes _ b) (λ b v h. yes _ b) (λ b h. yes _ b));
      }
      | false ↦ λ e. shrink_busy sh x name compact o own busy full t on mine f e shrunk
    ]) refl
