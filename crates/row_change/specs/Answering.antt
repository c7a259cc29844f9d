-- What the changes of rows answer, and what each answer leaves.
use Rattle.std.specs.Prelude.{◌≡◌, ◌⊎◌, ℕ, ◌≤◌, List, Option, Some, None, Result, Ok, Err}
use Rattle.disk_model.specs.Crash.{Meaning}
use Rattle.redo_model.specs.Records.{Record}
use Rattle.store_core.specs.Store.{Held}
use Rattle.store_core.specs.Causes.{IsSoundFault}
use Rattle.store_core.specs.declared.fault.StoreFault.{StoreFault}
use Rattle.change_laws.specs.Types.{Change, Answer, Makes, RowChanged, RowBusy, EntriesTaken, BlockNeeded, UndoSpent}
use Rattle.row_change.specs.declared.answer.Done.{Done}
use Rattle.row_change.specs.declared.answer.ChangeFault.{ChangeFault}
use Rattle.row_change.specs.declared.answer.ChangeFault.TheVariants.{Busy, Changed, NoSlot, NeedsBlock, UndoFull, Store}
use Rattle.row_change.specs.Acting.{txn_of}
use Rattle.row_change.specs.Adding.{Stands}
use Rattle.row_change.specs.Planning.{IsBegun, IsNext}

-- what a store says of an answer: a refusal is no fault of it
abbrev pub store_answer : Result Done ChangeFault → Result (Option Done) StoreFault
store_answer (Ok done) = Ok (Some done)
store_answer (Err (Store fault)) = Err fault
store_answer (Err (Busy txn)) = Ok None
store_answer (Err (Changed commits)) = Ok None
store_answer (Err (NoSlot txns)) = Ok None
store_answer (Err (NeedsBlock len)) = Ok None
store_answer (Err (UndoFull holders)) = Ok None

-- the change is made: its records are added, and its row and transaction answered
pub record IsMade {D : Type 0} (meaning : Meaning D) (R : List Record) (who : ℕ) (own : Option ℕ) (answer : Answer) (old new : Held D) (done : Done) : Type 0 where
  pub change : Change
  pub answer_is : answer ≡ Makes change
  pub done_is : done ≡ record { row = change.row; txn = txn_of R own }
  pub next : List Record
  pub next_is : IsNext old.shape R who own change next
  pub stands : Stands meaning R next old new

-- it is refused for this, and the list stays
pub record IsRefused {D : Type 0} (meaning : Meaning D) (R : List Record) (answer cause : Answer) (old new : Held D) : Type 0 where
  pub answer_is : answer ≡ cause
  pub stands : Stands meaning R R old new

pub record BegunStands {D : Type 0} (meaning : Meaning D) (R : List Record) (who : ℕ) (own : Option ℕ) (old new : Held D) : Type 0 where
  pub next : List Record
  pub begins : IsBegun R who own next
  pub stands : Stands meaning R next old new

-- the store failed or memory is wanting: the list stays, but for a Begin that was added before
pub record HasFailed {D : Type 0} (meaning : Meaning D) (R : List Record) (who : ℕ) (own : Option ℕ) (old new : Held D) (fault : StoreFault) : Type 0 where
  pub sound : old.fault ≡ None → IsSoundFault fault
  pub left : Stands meaning R R old new ⊎ BegunStands meaning R who own old new

abbrev pub IsFaultOf : {D : Type 0} → Meaning D → List Record → ℕ → Option ℕ → Answer → Held D → Held D → ChangeFault → Type 0
IsFaultOf meaning R who own answer old new (Busy txn) = IsRefused meaning R answer (RowBusy txn) old new
IsFaultOf meaning R who own answer old new (Changed commits) = IsRefused meaning R answer (RowChanged commits) old new
IsFaultOf meaning R who own answer old new (NoSlot txns) = IsRefused meaning R answer (EntriesTaken txns) old new
IsFaultOf meaning R who own answer old new (NeedsBlock len) = IsRefused meaning R answer (BlockNeeded len) old new
IsFaultOf meaning R who own answer old new (UndoFull holders) = IsRefused meaning R answer (UndoSpent holders) old new
IsFaultOf meaning R who own answer old new (Store fault) = HasFailed meaning R who own old new fault

abbrev pub IsAnswer : {D : Type 0} → Meaning D → List Record → ℕ → Option ℕ → Answer → Held D → Held D → Result Done ChangeFault → Type 0
IsAnswer meaning R who own answer old new (Ok done) = IsMade meaning R who own answer old new done
IsAnswer meaning R who own answer old new (Err fault) = IsFaultOf meaning R who own answer old new fault

-- a true store with the records R answers just this, and its records on the disk stay there
pub record Answers {D : Type 0} (meaning : Meaning D) (R : List Record) (who : ℕ) (own : Option ℕ) (answer : Answer) (old new : Held D) (result : Result Done ChangeFault) : Type 0 where
  pub is : IsAnswer meaning R who own answer old new result
  pub stable : old.log.stable ≤ new.log.stable
