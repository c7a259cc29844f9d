-- Groups of whole records.
use Rattle.std.specs.Prelude.{◌≡◌, ◌⊎◌, ℕ, ◌+◌, ◌<◌, List, [], ◌∷◌, ◌++◌, length, take, drop, slice_index, Some, None, Result, Ok, Err}
use Rattle.log_frame.specs.Types.{size_found}
use Rattle.log_frame.specs.declared.fault.WrongByte.{WrongByte}
use Rattle.log_frame.specs.declared.log.TheConstants.{GROUP_HEAD_SIZE}
use Rattle.redo_record.specs.declared.record.Record.{Record}
use Rattle.redo_record.specs.Decoding.{StandsAt}
use Rattle.redo_log.specs.Kept.{spelled, AreSpelled, Holds}

-- from a gate on these groups stand behind open gates, and then comes this gate
abbrev pub Between : List ℕ → ℕ → List (List ℕ) → ℕ → Type 0
Between file from [] at = at ≡ from
Between file from (group ∷ groups) at = (size_found file from ≡ Ok (Some (length group))) × (take (length group) (drop (from + GROUP_HEAD_SIZE) file) ≡ group) × Between file (from + GROUP_HEAD_SIZE + length group) groups at

-- from a gate to another stand groups of whole records, which lead from R0 to R
pub record Walked (file : List ℕ) (from at : ℕ) (R0 R : List Record) : Type 0 where
  pub groups : List (List ℕ)
  pub between : Between file from groups at
  pub holds : Holds groups R0 R

-- At that place of the payload no record stands, and whole records stand before it.
pub record Breaks (payload : List ℕ) (place : ℕ) : Type 0 where
  pub front : List Record
  pub whole : take place payload ≡ spelled front
  pub spells : AreSpelled front
  pub within : place < length payload
  pub none : (rec : Record) (next : ℕ) → StandsAt rec payload place next → ⊥

-- the group behind that gate is framed, and its payload isn't whole records
pub record BadPayload (file : List ℕ) (gate : ℕ) (wrong : WrongByte) : Type 0 where
  pub size : ℕ
  pub framed : size_found file gate ≡ Ok (Some size)
  pub place : ℕ
  pub breaks : Breaks (take size (drop (gate + GROUP_HEAD_SIZE) file)) place
  pub offset : wrong.offset ≡ gate + GROUP_HEAD_SIZE + place
  pub seen : wrong.seen ≡ slice_index (take size (drop (gate + GROUP_HEAD_SIZE) file)) place

-- what is wrong first at a gate: its frame before its payload
abbrev pub IsWrong : List ℕ → ℕ → WrongByte → Type 0
IsWrong file gate wrong = (size_found file gate ≡ Err wrong) ⊎ BadPayload file gate wrong
