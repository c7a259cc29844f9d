-- A statement is about one row of one table.
use Rattle.std.proofs.Common.{◌≡◌, ℕ, List, Option, Some, sym, ◌∙◌, ap}
use Rattle.redo_model.specs.Model.{table_named}
use Rattle.script_text.specs.declared.statement.Statement.{Statement}
use Rattle.script_text.specs.declared.statement.Target.{Target}
use Rattle.history_model.specs.Spans.{Span, target_row}
use Rattle.history_model.specs.Causes.{IsOnRow}

pub same_some : {A : Type 0} (x y : A) → ◌≡◌ {A = Option A} (Some x) (Some y) → x ≡ y
same_some x y e = cc

pub one_obj : (x : Span) (st : Statement) (o n p m : ℕ) → IsOnRow x st o n → IsOnRow x st p m → o ≡ p
one_obj x st o n p m h k =
    let name : h.name ≡ k.name = same_some h.name k.name (sym h.named ∙ k.named) in
    same_some o p (sym h.table ∙ (ap (λ (l : List ℕ). table_named x.begun l) name ∙ k.table))

pub one_row : (x : Span) (st : Statement) (o n p m : ℕ) → IsOnRow x st o n → IsOnRow x st p m → n ≡ m
one_row x st o n p m h k =
    let target : h.target ≡ k.target = same_some h.target k.target (sym h.targeted ∙ k.targeted) in
    same_some n m (sym h.row ∙ (ap (λ (t : Target). target_row x.scripts x.past t) target ∙ k.row))
