-- What an answer says of the bytes of the log.
use Rattle.std.specs.Prelude.{◌≡◌, ℕ, ◌+◌, true, false, List, [], ◌++◌, reverse, slice_index, None, Result, Ok, Err}
use Rattle.std.specs.Global.{Vec}
use Rattle.log_frame.specs.Types.{is_formatted, size_found, wrong}
use Rattle.redo_record.specs.declared.record.Record.{Record}
use Rattle.redo_log.specs.Kept.{Kept, spelled, AreSpelled, last_number, Holds, HasList}
use Rattle.redo_log.specs.Groups.{Between, Walked, Breaks, IsWrong}
use Rattle.redo_log.specs.declared.fault.LogFault.{LogFault}
use Rattle.redo_log.specs.declared.fault.LogFault.TheVariants.{DeviceFault, NotOpen, BadLog, NoMemory}

-- records that a payload adds to a list, both the newest first
pub record IsMore (payload : List ℕ) (old new : List Record) : Type 0 where
  pub newer : List Record
  pub whole : payload ≡ spelled newer
  pub spells : AreSpelled newer
  pub is : new ≡ newer ++ old

-- of a payload that stands at a place of the file
abbrev pub IsAdded : List ℕ → ℕ → List Record → List Record → Result (Unit {0}) LogFault → Type 0
IsAdded payload at old new (Ok done) = IsMore payload old new
IsAdded payload at old new (Err DeviceFault) = ⊥
IsAdded payload at old new (Err NotOpen) = ⊥
IsAdded payload at old new (Err (BadLog offset seen)) = (place : ℕ) × Breaks payload place × (offset ≡ at + place) × (seen ≡ slice_index payload place)
IsAdded payload at old new (Err NoMemory) = Unit {0}

-- the walk from a gate with the list R0 came to a gate where this is wrong first
pub record WalkBreaks (file : List ℕ) (from offset seen : ℕ) (R0 : List Record) : Type 0 where
  pub at : ℕ
  pub R : List Record
  pub walked : Walked file from at R0 R
  pub is : IsWrong file at (wrong offset seen)

-- the walk from a gate with the list R0 came to the closed gate with the list R
pub record WalkEnds (file : List ℕ) (from at : ℕ) (R0 R : List Record) : Type 0 where
  pub walked : Walked file from at R0 R
  pub shut : size_found file at ≡ Ok None

-- why a walk from a gate with the list R0 stopped
abbrev pub Stops : List ℕ → ℕ → List Record → LogFault → Type 0
Stops file from R0 DeviceFault = Unit {0}
Stops file from R0 NotOpen = ⊥
Stops file from R0 (BadLog offset seen) = WalkBreaks file from offset seen R0
Stops file from R0 NoMemory = Unit {0}

-- of a count of the records from a gate on, before which stand the records R0
abbrev pub IsCounted : List ℕ → ℕ → List Record → ℕ → Result ℕ LogFault → Type 0
IsCounted file from R0 at (Ok count) = (R : List Record) × WalkEnds file from at R0 R × (count ≡ last_number R)
IsCounted file from R0 at (Err fault) = Stops file from R0 fault

-- The log that was opened has the records of all groups from the gate to the closed one, each of them stable.
pub record IsFound (file : List ℕ) (from : ℕ) (R0 : List Record) (log : Kept) : Type 0 where
  pub R : List Record
  pub groups : List (List ℕ)
  pub between : Between file from groups log.end
  pub shut : size_found file log.end ≡ Ok None
  pub holds : Holds groups R0 R
  pub list : HasList groups R0 R log
  pub none : log.waiting.bytes ≡ []

-- of an opening from a gate on, before which stand the records R0
abbrev pub IsOpening : List ℕ → ℕ → List Record → Result Kept LogFault → Type 0
IsOpening file from R0 (Ok log) = (is_formatted file ≡ true) × IsFound file from R0 log
IsOpening file from R0 (Err DeviceFault) = Unit {0}
IsOpening file from R0 (Err NotOpen) = is_formatted file ≡ false
IsOpening file from R0 (Err (BadLog offset seen)) = (is_formatted file ≡ true) × WalkBreaks file from offset seen R0
IsOpening file from R0 (Err NoMemory) = Unit {0}

-- of a reading of all records from a gate on
pub record AreAll (file : List ℕ) (from : ℕ) (records : List Record) : Type 0 where
  pub at : ℕ
  pub ends : WalkEnds file from at [] (reverse records)

abbrev pub IsReadFrom : List ℕ → ℕ → Result (Vec Record) LogFault → Type 0
IsReadFrom file from (Ok records) = AreAll file from records.items
IsReadFrom file from (Err fault) = Stops file from [] fault

-- this holds of the answer, unless the device failed or memory is wanting
abbrev pub AnswersInMemory : {A : Type 0} → Result A LogFault → (A → Type 0) → Type 0
AnswersInMemory (Ok answer) P = P answer
AnswersInMemory (Err DeviceFault) P = Unit {0}
AnswersInMemory (Err NotOpen) P = ⊥
AnswersInMemory (Err (BadLog offset seen)) P = ⊥
AnswersInMemory (Err NoMemory) P = Unit {0}
