-- A group of a log: an open gate, the payload's length, the payload. Behind it stands the next gate.
use Rattle.std.specs.Prelude.{◌≡◌, ℕ, ◌+◌, ◌<◌, ◌≤◌, ◌^◌, ◌==◌, nat_lt, List, [], ◌∷◌, ◌++◌, length, take, drop, slice_index, Option, Some, None, Result, Ok, Err, if◌then◌else◌, flat_map}
use Rattle.log_frame.specs.declared.log.TheConstants.{GROUP_HEAD_SIZE}
use Rattle.seg_words.specs.Types.{w32, to_be_bytes, number_in}
use Rattle.log_frame.specs.declared.fault.WrongByte.{WrongByte}
use Rattle.log_frame.specs.declared.log.Group.{Group}

-- the spelling of a group
abbrev pub frame : List ℕ → List ℕ
frame payload = 1 ∷ to_be_bytes w32 (length payload) ++ payload

abbrev pub frames : List (List ℕ) → List ℕ
frames groups = flat_map frame groups

pub record IsPayload (payload : List ℕ) : Type 0 where
  pub some : 1 ≤ length payload
  pub fits : length payload < 2 ^ 32

-- a payload of this length, behind an open gate
abbrev pub framed : List ℕ → ℕ → ℕ → Result (Option ℕ) WrongByte
framed bytes at size =
    if nat_lt (length bytes) (at + GROUP_HEAD_SIZE)
    then Err (record { offset = length bytes; seen = 0 })
    else (if size == 0
    then Err (record { offset = at + 1; seen = 0 })
    else (if nat_lt (at + GROUP_HEAD_SIZE + size) (length bytes) then Ok (Some size) else Err (record { offset = length bytes; seen = 0 })))

-- What stands at a gate: nothing where it is closed, else the length of a payload behind which the next gate stands.
abbrev pub size_found : List ℕ → ℕ → Result (Option ℕ) WrongByte
size_found bytes at =
    if nat_lt at (length bytes)
    then (if slice_index bytes at == 1 then framed bytes at (number_in w32 bytes (at + 1)) else Ok None)
    else Err (record { offset = at; seen = 0 })

abbrev pub group_of : List ℕ → ℕ → Result (Option ℕ) WrongByte → Result (Option Group) WrongByte
group_of bytes at (Ok None) = Ok None
group_of bytes at (Ok (Some size)) = Ok (Some (record { payload = take size (drop (at + GROUP_HEAD_SIZE) bytes); next = at + GROUP_HEAD_SIZE + size }))
group_of bytes at (Err fault) = Err fault

-- the group at a gate
abbrev pub group_found : List ℕ → ℕ → Result (Option Group) WrongByte
group_found bytes at = group_of bytes at (size_found bytes at)

-- From a gate on these groups stand behind open gates, and then comes the closed gate, or what is wrong.
abbrev pub Walks : List ℕ → ℕ → List (List ℕ) → Result ℕ WrongByte → Type 0
Walks bytes at [] (Ok end) = (size_found bytes at ≡ Ok None) × (end ≡ at)
Walks bytes at [] (Err fault) = size_found bytes at ≡ Err fault
Walks bytes at (group ∷ groups) result =
    (size_found bytes at ≡ Ok (Some (length group))) × (take (length group) (drop (at + GROUP_HEAD_SIZE) bytes) ≡ group) × Walks bytes (at + GROUP_HEAD_SIZE + length group) groups result
