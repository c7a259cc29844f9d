-- That no first cause applies stays while a statement is under way, and what follows: an accepted outcome passes over them, and
-- a refusal at the first event means its cause.
use Rattle.std.specs.Prelude.{◌≡◌, ℕ, ◌≤◌, Bool, true, false, ltb, List, length, Some}
use Rattle.seg_words.specs.Types.{Shape}
use Rattle.redo_model.specs.Records.{Record}
use Rattle.redo_model.specs.Model.{Extends}
use Rattle.script_text.specs.declared.statement.Statement.{Statement}
use Rattle.history_text.specs.declared.outcome.Outcome.{Outcome}
use Rattle.history_text.specs.declared.outcome.Outcome.TheVariants as told
use Rattle.history_text.specs.declared.refusal.Refusal.{Refusal}
use Rattle.history_model.specs.declared.history.Kept.{Kept}
use Rattle.history_model.specs.History.{Task}
use Rattle.history_model.specs.Spans.{Span}
use Rattle.history_model.specs.Order.{rank, is_first_tested}
use Rattle.history_model.specs.Causes.{Cause}
use Rattle.history_model.specs.Passing.{FirstPass}
use Rattle.history_model.specs.Means.{PassesOver}
use Rattle.history_laws.specs.Working.{now_of, later}
use Rattle.history_laws.specs.Refusals.{IsRefusedSo}

-- whatever is added
abbrev pub FirstPassStays : Type 0
FirstPassStays =
    (sh : Shape) (scripts : List (List Statement)) (Q R : List Record) (w : ℕ) (task : Task) (st : Statement) → Extends Q R → task.begins ≤ length Q → FirstPass sh (now_of scripts Q w task) st → FirstPass sh (now_of scripts R w task) st

-- the same of any span: the first causes speak of its beginning
abbrev pub FirstPassLater : Type 0
FirstPassLater = (sh : Shape) (x : Span) (R : List Record) (st : Statement) → FirstPass sh x st → FirstPass sh (later x R) st

abbrev pub is_refused : Outcome → Bool
is_refused (told.Refused refusal) = true
is_refused _ = false

abbrev pub AcceptedPasses : Type 0
AcceptedPasses = (sh : Shape) (x : Span) (st : Statement) (outcome : Outcome) (k : Kept) → is_refused outcome ≡ false → FirstPass sh x st → PassesOver sh x (Some st) outcome k

-- refused at once: no record was added, the cause holds, and none before it
abbrev pub FirstIsRefused : Type 0
FirstIsRefused =
    (sh : Shape) (x : Span) (st : Statement) (y : Refusal) → is_first_tested y ≡ true → x.ended ≡ x.begun → Cause sh x st 0 y → ((z : Refusal) → ltb (rank z) (rank y) ≡ true → Cause sh x st 0 z → ⊥) → IsRefusedSo sh x st y
