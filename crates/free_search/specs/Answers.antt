-- What a search answers.
use Rattle.std.specs.Prelude.{ℕ, List, Option, Some, None, Result, Ok, Err}
use Rattle.seg_words.specs.Types.{Shape}
use Rattle.redo_model.specs.Records.{Record}
use Rattle.mark_laws.specs.declared.step.Found.{Found}
use Rattle.mark_laws.specs.declared.step.Refusal.{Refusal}
use Rattle.mark_laws.specs.declared.step.Refusal.TheVariants as refusal
use Rattle.mark_laws.specs.Searches.{Sought}
use Rattle.mark_laws.specs.Refusals.{LacksSpace, HasMostExtents}
use Rattle.store_core.specs.Causes.{IsSoundFault}
use Rattle.store_core.specs.declared.fault.StoreFault.{StoreFault}
use Rattle.free_search.specs.declared.fault.FindFault.{FindFault}
use Rattle.free_search.specs.declared.fault.FindFault.TheVariants as faults

abbrev pub first_of : Option ℕ → Option ℕ → Option ℕ
first_of (Some b) c = Some b
first_of None c = c

-- the refusal as it is answered
abbrev pub fault_of : Refusal → FindFault
fault_of (refusal.NoSpace need) = faults.NoSpace need
fault_of (refusal.MaxExtents count) = faults.MaxExtents count

-- what of an answer is the store's: a search that is refused went well
abbrev pub store_part : Result Found FindFault → Result (Unit {0}) StoreFault
store_part (Ok found) = Ok tt
store_part (Err (faults.NoSpace need)) = Ok tt
store_part (Err (faults.MaxExtents count)) = Ok tt
store_part (Err (faults.Store fault)) = Err fault

-- the exact cause of a refusal; of faults of the store other clauses speak
abbrev pub IsRefusedBy : Shape → List Record → Sought → FindFault → Type 0
IsRefusedBy sh R q (faults.NoSpace need) = LacksSpace sh R q need
IsRefusedBy sh R q (faults.MaxExtents count) = HasMostExtents sh R q count
IsRefusedBy sh R q (faults.Store fault) = Unit {0}

-- what a search of a true store may answer
abbrev pub IsSoundFind : FindFault → Type 0
IsSoundFind (faults.NoSpace need) = Unit {0}
IsSoundFind (faults.MaxExtents count) = Unit {0}
IsSoundFind (faults.Store fault) = IsSoundFault fault
