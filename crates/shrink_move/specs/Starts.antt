-- What the start of a shrink answers.
use Rattle.std.specs.Prelude.{◌≡◌, ℕ, false, cond, eqb, List, [], Option, Some, None, Result, Ok, Err}
use Rattle.seg_words.specs.Types.{Shape}
use Rattle.redo_model.specs.Records.{Record}
use Rattle.redo_model.specs.Model.{HasMovement, has_movement}
use Rattle.shrink_laws.specs.Stops.{last_formatted}
use Rattle.store_core.specs.Causes.{IsSoundFault}
use Rattle.store_core.specs.declared.fault.StoreFault.{StoreFault}
use Rattle.shrink_move.specs.declared.fault.ShrinkFault.{ShrinkFault}
use Rattle.shrink_move.specs.declared.fault.ShrinkFault.TheVariants as faults
use Rattle.shrink_move.specs.declared.shrink.Shrink.{Shrink}

-- the session that shrinks the table, where it is another one
abbrev pub other_session : Option ℕ → ℕ → Option ℕ
other_session None who = None
other_session (Some s) who = cond (eqb s who) None (Some s)

-- row movement is on, no other session shrinks the table, and the cursor stands at the last formatted position
pub record HasStarted (sh : Shape) (R : List Record) (o who : ℕ) (busy : Option ℕ) (x : Shrink) : Type 0 where
  pub movement : HasMovement R o
  pub alone : other_session busy who ≡ None
  pub obj : x.obj ≡ o
  pub cursor : x.cursor ≡ last_formatted sh R o
  pub skips : x.skips ≡ []

pub record IsBusy (R : List Record) (o who : ℕ) (busy : Option ℕ) (session : ℕ) : Type 0 where
  pub movement : HasMovement R o
  pub other : other_session busy who ≡ Some session

-- the answer, and the exact cause of a refusal; of faults of the store other clauses speak
abbrev pub StartIs : Shape → List Record → ℕ → ℕ → Option ℕ → Result Shrink ShrinkFault → Type 0
StartIs sh R o who busy (Ok x) = HasStarted sh R o who busy x
StartIs sh R o who busy (Err faults.MovementOff) = has_movement R o ≡ false
StartIs sh R o who busy (Err (faults.ShrinkBusy session)) = IsBusy R o who busy session
StartIs sh R o who busy (Err (faults.UndoFull holders)) = ⊥
StartIs sh R o who busy (Err (faults.Store fault)) = Unit {0}

-- what of an answer is the store's: a call that is refused went well
abbrev pub store_part : {T : Type 0} → Result T ShrinkFault → Result (Unit {0}) StoreFault
store_part (Ok x) = Ok tt
store_part (Err faults.MovementOff) = Ok tt
store_part (Err (faults.ShrinkBusy session)) = Ok tt
store_part (Err (faults.UndoFull holders)) = Ok tt
store_part (Err (faults.Store fault)) = Err fault

-- what a start over a true store may answer
abbrev pub IsSoundStart : Result Shrink ShrinkFault → Type 0
IsSoundStart (Err (faults.Store fault)) = IsSoundFault fault
IsSoundStart r = Unit {0}
