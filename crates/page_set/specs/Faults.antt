-- A refusal for want of memory leaves things as they were.
use Rattle.std.specs.Prelude.{◌≡◌, Result, Ok, Err}
use Rattle.page_set.specs.declared.fault.Unfit.{Unfit}
use Rattle.page_set.specs.declared.fault.Unfit.TheVariants.{Misfit, NoMemory}

abbrev pub Kept : {A : Type 0} → Result Unit Unfit → A → A → Type 0
Kept (Ok u) old new = Unit {0}
Kept (Err Misfit) old new = Unit {0}
Kept (Err NoMemory) old new = new ≡ old

-- what needs no memory fails exactly where it doesn't fit
abbrev pub IsMisfit : Result Unit Unfit → Type 0 → Type 0
IsMisfit (Ok u) F = F
IsMisfit (Err Misfit) F = F → ⊥
IsMisfit (Err NoMemory) F = ⊥
