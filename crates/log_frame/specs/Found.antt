-- What an answer says of the bytes that were read.
use Rattle.std.specs.Prelude.{◌≡◌, ℕ, ◌+◌, true, false, List, [], ◌∷◌, length, take, Option, Some, None, Result, Ok, Err}
use Rattle.log_frame.specs.declared.log.TheConstants.{GROUP_HEAD_SIZE}
use Rattle.seg_words.specs.Types.{Shape, LOG_HEAD_SIZE}
use Rattle.log_frame.specs.Head.{is_formatted, shape_found}
use Rattle.log_frame.specs.Frame.{Walks}
use Rattle.log_frame.specs.declared.log.Group.{Group}
use Rattle.log_frame.specs.declared.fault.WrongByte.{WrongByte}
use Rattle.log_frame.specs.declared.fault.FrameFault.{FrameFault}
use Rattle.log_frame.specs.declared.fault.FrameFault.TheVariants.{DeviceFault, NotOpen, BadFrame, NoMemory}

abbrev pub wrong : ℕ → ℕ → WrongByte
wrong offset seen = record { offset = offset; seen = seen }

-- of an opening of the head, unless the device failed
abbrev pub IsHeadFound : List ℕ → Result Shape FrameFault → Type 0
IsHeadFound bytes (Ok shape) = (is_formatted bytes ≡ true) × (shape_found (take LOG_HEAD_SIZE bytes) ≡ Ok shape)
IsHeadFound bytes (Err DeviceFault) = Unit {0}
IsHeadFound bytes (Err NotOpen) = is_formatted bytes ≡ false
IsHeadFound bytes (Err (BadFrame offset seen)) = (is_formatted bytes ≡ true) × (shape_found (take LOG_HEAD_SIZE bytes) ≡ Err (wrong offset seen))
IsHeadFound bytes (Err NoMemory) = ⊥

-- of a look at the head's gate, unless the device failed
abbrev pub IsOpen : List ℕ → Result (Unit {0}) FrameFault → Type 0
IsOpen bytes (Ok done) = is_formatted bytes ≡ true
IsOpen bytes (Err DeviceFault) = Unit {0}
IsOpen bytes (Err NotOpen) = is_formatted bytes ≡ false
IsOpen bytes (Err (BadFrame offset seen)) = ⊥
IsOpen bytes (Err NoMemory) = ⊥

-- from a gate on, some groups and then this
pub record Walked (bytes : List ℕ) (from : ℕ) (result : Result ℕ WrongByte) : Type 0 where
  pub groups : List (List ℕ)
  pub walks : Walks bytes from groups result

-- of a walk from a gate on, unless the device failed
abbrev pub IsEndFound : List ℕ → ℕ → Result ℕ FrameFault → Type 0
IsEndFound bytes from (Ok end) = Walked bytes from (Ok end)
IsEndFound bytes from (Err DeviceFault) = Unit {0}
IsEndFound bytes from (Err NotOpen) = ⊥
IsEndFound bytes from (Err (BadFrame offset seen)) = Walked bytes from (Err (wrong offset seen))
IsEndFound bytes from (Err NoMemory) = ⊥

-- of an opening from a gate on, unless the device failed
abbrev pub IsOpening : List ℕ → ℕ → Result ℕ FrameFault → Type 0
IsOpening bytes from (Ok end) = (is_formatted bytes ≡ true) × Walked bytes from (Ok end)
IsOpening bytes from (Err DeviceFault) = Unit {0}
IsOpening bytes from (Err NotOpen) = is_formatted bytes ≡ false
IsOpening bytes from (Err (BadFrame offset seen)) = (is_formatted bytes ≡ true) × Walked bytes from (Err (wrong offset seen))
IsOpening bytes from (Err NoMemory) = ⊥

-- of a look at a gate, unless the device failed
abbrev pub IsSizeFound : Result (Option ℕ) WrongByte → Result (Option ℕ) FrameFault → Type 0
IsSizeFound found (Ok size) = found ≡ Ok size
IsSizeFound found (Err DeviceFault) = Unit {0}
IsSizeFound found (Err NotOpen) = ⊥
IsSizeFound found (Err (BadFrame offset seen)) = found ≡ Err (wrong offset seen)
IsSizeFound found (Err NoMemory) = ⊥

-- of a reading of a group, unless the device failed or memory is wanting
abbrev pub IsGroupFound : Result (Option Group) WrongByte → Result (Option Group) FrameFault → Type 0
IsGroupFound found (Ok group) = found ≡ Ok group
IsGroupFound found (Err DeviceFault) = Unit {0}
IsGroupFound found (Err NotOpen) = ⊥
IsGroupFound found (Err (BadFrame offset seen)) = found ≡ Err (wrong offset seen)
IsGroupFound found (Err NoMemory) = Unit {0}

-- this holds of the answer, unless the device failed
abbrev pub Answers : {A : Type 0} → Result A FrameFault → (A → Type 0) → Type 0
Answers (Ok answer) P = P answer
Answers (Err DeviceFault) P = Unit {0}
Answers (Err NotOpen) P = ⊥
Answers (Err (BadFrame offset seen)) P = ⊥
Answers (Err NoMemory) P = ⊥

-- the same, where memory may be wanting
abbrev pub AnswersInMemory : {A : Type 0} → Result A FrameFault → (A → Type 0) → Type 0
AnswersInMemory (Ok answer) P = P answer
AnswersInMemory (Err DeviceFault) P = Unit {0}
AnswersInMemory (Err NotOpen) P = ⊥
AnswersInMemory (Err (BadFrame offset seen)) P = ⊥
AnswersInMemory (Err NoMemory) P = Unit {0}

-- the first of these groups, and none where there is none
abbrev pub IsFirst : List (List ℕ) → ℕ → Option Group → Type 0
IsFirst [] at group = group ≡ None
IsFirst (payload ∷ groups) at group = group ≡ Some (record { payload = payload; next = at + GROUP_HEAD_SIZE + length payload })
