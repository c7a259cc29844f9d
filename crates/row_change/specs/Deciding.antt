-- What comes of an update or a delete, before anything is added.
use Rattle.std.specs.Prelude.{◌≡◌, ℕ, List, Option}
use Rattle.seg_words.specs.Types.{Shape}
use Rattle.redo_model.specs.Records.{Record}
use Rattle.change_laws.specs.Types.{Change as TheChange, Answer, RowChanged, RowBusy, EntriesTaken, BlockNeeded, by_spot, spot_for, change_size}
use Rattle.row_change.specs.declared.deciding.Decision.{Decision}
use Rattle.row_change.specs.declared.deciding.Decision.TheVariants.{Makes, Changed, Busy, NoSlot, NeedsBlock}
use Rattle.row_change.specs.declared.plan.Planned.{Planned}
use Rattle.row_change.specs.Planning.{PlanMeans}

-- a change is planned, and where undo isn't full for it the answer is that it is made
pub record IsPlanned (sh : Shape) (R : List Record) (who : ℕ) (own : Option ℕ) (a : Answer) (x : Planned) : Type 0 where
  pub change : TheChange
  pub answer_is : a ≡ by_spot change (spot_for sh R (change_size R change))
  pub plan : PlanMeans sh R who own change x

abbrev pub DecisionMeans : Shape → List Record → ℕ → Option ℕ → Answer → Decision → Type 0
DecisionMeans sh R who own a (Makes x) = IsPlanned sh R who own a x
DecisionMeans sh R who own a (Changed s) = a ≡ RowChanged s
DecisionMeans sh R who own a (Busy u) = a ≡ RowBusy u
DecisionMeans sh R who own a (NoSlot ts) = a ≡ EntriesTaken ts
DecisionMeans sh R who own a (NeedsBlock len) = a ≡ BlockNeeded len
