-- Groups that are read one after the other, from pieces of the file.
use Rattle.std.specs.Prelude.{◌≡◌, ℕ, ◌+◌, ◌-◌, ◌≤◌, min, Bool, true, false, List, ◌++◌, length, take, drop, replicate, Some, None, Result, Ok, Err}
use Rattle.log_frame.specs.declared.log.TheConstants.{GROUP_HEAD_SIZE}
use Rattle.log_frame.specs.Head.{is_formatted}
use Rattle.log_frame.specs.Frame.{size_found}
use Rattle.log_frame.specs.Found.{wrong}
use Rattle.log_frame.specs.declared.fault.FrameFault.{FrameFault}
use Rattle.log_frame.specs.declared.fault.FrameFault.TheVariants.{DeviceFault, NotOpen, BadFrame, NoMemory}

-- the file's length; the bytes that were read and their place; the gate that comes next; the length of the payload before it
pub record Reading : Type 0 where
  pub len : ℕ
  pub start : ℕ
  pub read : List ℕ
  pub next : ℕ
  pub size : ℕ

-- what was read from the next gate on, and the payload that ends there
abbrev pub window : Reading → List ℕ
window r = drop (r.next - r.start) r.read

abbrev pub payload_read : Reading → List ℕ
payload_read r = take r.size (drop (r.next - r.size - r.start) r.read)

-- what was read stands there in the file
pub record Covers (file : List ℕ) (r : Reading) : Type 0 where
  pub len : r.len ≡ length file
  pub inside : r.start ≤ r.next
  pub stands : r.read ≡ take (length r.read) (drop r.start file)

-- so many bytes were read from the next gate on, or all of the file
pub record IsReached (file : List ℕ) (need : ℕ) (r : Reading) : Type 0 where
  pub covers : Covers file r
  pub there : min need (length file - r.next) ≤ length (window r)

-- the first bytes at a gate, as many as a group has before its payload, zeros behind the file's end
abbrev pub IsFront : List ℕ → ℕ → List ℕ → Type 0
IsFront file at front = front ≡ take (min GROUP_HEAD_SIZE (length file - at)) (drop at file) ++ drop (min GROUP_HEAD_SIZE (length file - at)) (replicate GROUP_HEAD_SIZE 0)

-- one group further
pub record Passes (file : List ℕ) (gate : ℕ) (r : Reading) : Type 0 where
  pub covers : Covers file r
  pub found : size_found file gate ≡ Ok (Some r.size)
  pub payload : payload_read r ≡ take r.size (drop (gate + GROUP_HEAD_SIZE) file)
  pub next : r.next ≡ gate + GROUP_HEAD_SIZE + r.size

-- what going on over a group answers, unless the device failed or memory is wanting
abbrev pub IsAdvance : List ℕ → ℕ → Reading → Result Bool FrameFault → Type 0
IsAdvance file gate r (Ok true) = Passes file gate r
IsAdvance file gate r (Ok false) = (size_found file gate ≡ Ok None) × (r.next ≡ gate)
IsAdvance file gate r (Err DeviceFault) = Unit {0}
IsAdvance file gate r (Err NotOpen) = ⊥
IsAdvance file gate r (Err (BadFrame offset seen)) = size_found file gate ≡ Err (wrong offset seen)
IsAdvance file gate r (Err NoMemory) = Unit {0}

-- what the beginning of a reading answers, unless the device failed
abbrev pub IsBegun : List ℕ → ℕ → Result Reading FrameFault → Type 0
IsBegun file from (Ok r) = (is_formatted file ≡ true) × Covers file r × (r.next ≡ from)
IsBegun file from (Err DeviceFault) = Unit {0}
IsBegun file from (Err NotOpen) = is_formatted file ≡ false
IsBegun file from (Err (BadFrame offset seen)) = ⊥
IsBegun file from (Err NoMemory) = ⊥
