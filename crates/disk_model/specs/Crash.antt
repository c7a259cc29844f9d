-- What a crash may leave at each moment.
use Rattle.std.specs.Prelude.{◌≡◌, ◌⊎◌, ◌↔◌, ℕ, ◌+◌, ◌-◌, ◌^◌, ◌<◌, ◌≤◌, min, Result, OnOk}
use Rattle.seg_words.specs.Types.{Rose}
use Rattle.disk_model.specs.declared.disk.File.{File}
use Rattle.disk_model.specs.declared.disk.File.TheVariants.{Data, Log}
use Rattle.disk_model.specs.Files.{Files}

-- What a disk means.
pub record Meaning (D : Type 0) : Type 1 where
  -- That it tells what it holds. The real disk doesn't.
  pub told : D → Type 0
  -- what a read gives, where it is told
  pub files : D → Files
  -- the number of reads, lengths, writes and syncs that have returned
  pub clock : D → ℕ
  -- What a crash at that moment may have left: after so many calls had returned, and before the next one had.
  pub crash_at : D → ℕ → Files → Type 0
  -- how often it has failed, and how often the log was read
  pub fault_count : D → ℕ
  pub log_reads : D → ℕ

-- a crash now may leave it
abbrev pub Now : {D : Type 0} → Meaning D → D → Files → Type 0
Now meaning disk image = meaning.crash_at disk (meaning.clock disk) image

-- a crash now leaves what it would have left before
abbrev pub SameImages : {D : Type 0} → Meaning D → D → D → Type 0
SameImages meaning old new = (image : Files) → Now meaning new image ↔ Now meaning old image

-- One call: the clock goes on by one. A crash at an earlier moment left what it left, and one since the last call
-- returned what a crash then or now may leave.
pub record Elapses {D : Type 0} (meaning : Meaning D) (old new : D) : Type 0 where
  pub later : meaning.clock old ≤ meaning.clock new
  pub tick : meaning.clock new ≡ min (meaning.clock old + 1) (2 ^ 64 - 1)
  pub past : (m : ℕ) (image : Files) → m < meaning.clock old → meaning.crash_at new m image ↔ meaning.crash_at old m image
  pub during : (image : Files) → meaning.crash_at new (meaning.clock old) image ↔ (Now meaning old image ⊎ Now meaning new image)

-- A crash at any moment since old leaves an image that has P, and one at a moment before what it left.
pub record Leaves {D : Type 0} (meaning : Meaning D) (old new : D) (P : Files → Type 0) : Type 0 where
  pub later : meaning.clock old ≤ meaning.clock new
  pub each : (m : ℕ) (image : Files) → m ≤ meaning.clock new → meaning.crash_at new m image → ((m < meaning.clock old) × meaning.crash_at old m image) ⊎ ((meaning.clock old ≤ m) × P image)

-- at each moment from that one on a crash left, or leaves now, an image that has P
abbrev pub Always : {D : Type 0} → Meaning D → ℕ → D → (ℕ → Files → Type 0) → Type 0
Always meaning since disk P = (m : ℕ) (image : Files) → since ≤ m → m ≤ meaning.clock disk → meaning.crash_at disk m image → P m image

-- a count that has risen
pub record Rises (before now : ℕ) : Type 0 where
  pub later : before ≤ now
  pub rose : Rose before now

-- the count of faults didn't fall, and it rose where this was answered
pub record Causes {D : Type 0} (meaning : Meaning D) (old new : D) (Answered : Type 0) : Type 0 where
  pub later : meaning.fault_count old ≤ meaning.fault_count new
  pub rose : Answered → Rose (meaning.fault_count old) (meaning.fault_count new)

-- a read of the log counts
abbrev pub CountsRead : {T E : Type 0} → File → Result T E → ℕ → ℕ → Type 0
CountsRead Data result before now = now ≡ before
CountsRead Log result before now = (before ≤ now) × (now ≤ before + 1) × OnOk result (now ≡ before + 1)

-- the clock isn't at its end, and the file doesn't grow past 2^64 - 1 bytes
pub record CanWrite (clock offset n : ℕ) : Type 0 where
  pub in_time : clock < 2 ^ 64 - 1
  pub fits : offset + n ≤ 2 ^ 64 - 1

-- calls that changed nothing: what a read gives, what a crash leaves, and what it left on the way
pub record Untouched {D : Type 0} (meaning : Meaning D) (old new : D) : Type 0 where
  pub told : meaning.told new ↔ meaning.told old
  pub files : meaning.told old → meaning.files new ≡ meaning.files old
  pub images : SameImages meaning old new
  pub leaves : Leaves meaning old new (Now meaning old)
