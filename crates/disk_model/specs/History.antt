-- What a list of changes makes of two files, and what a crash may leave after them.
use Rattle.std.specs.Prelude.{◌≡◌, ◌⊎◌, ℕ, ◌+◌, ◌-◌, ◌^◌, ◌<◌, nat_le, Bool, true, List, [], ◌∷◌, length, filter}
use Rattle.disk_model.specs.Files.{Files, content, put, written, TornFile}
use Rattle.disk_model.specs.declared.memory.Change.{Change}
use Rattle.disk_model.specs.declared.memory.Change.TheVariants.{Write, Broken, Sync}
use Rattle.disk_model.specs.declared.memory.DatedChange.{DatedChange}

abbrev pub both : List ℕ → List ℕ → Files
both data_bytes log_bytes = record { data_bytes = data_bytes; log_bytes = log_bytes }

-- what a read gives after a change
abbrev pub seen_step : Change → Files → Files
seen_step (Write file offset bytes) seen = put file (written (content file seen) offset bytes) seen
seen_step (Broken file offset n) seen = seen
seen_step (Sync file) seen = seen

abbrev pub seen_after : Files → List DatedChange → Files
seen_after seen [] = seen
seen_after seen (dated ∷ changes) = seen_after (seen_step dated.change seen) changes

-- what a crash may leave after a change, where it might have left so much before
abbrev pub IsLeftBy : Change → Files → (Files → Type 0) → Files → Type 0
IsLeftBy (Write file offset bytes) seen left image = (was : Files) × left was × TornFile file offset (length bytes) was image
IsLeftBy (Broken file offset n) seen left image = (was : Files) × left was × TornFile file offset n was image
IsLeftBy (Sync file) seen left image = (was : Files) × left was × (image ≡ put file (content file seen) was)

abbrev pub IsLeftAfter : Files → (Files → Type 0) → List DatedChange → Files → Type 0
IsLeftAfter seen left [] image = left image
IsLeftAfter seen left (dated ∷ changes) image = IsLeftAfter (seen_step dated.change seen) (IsLeftBy dated.change seen left) changes image

-- the change was made by the call with that number, or by one before it
abbrev pub is_by : ℕ → DatedChange → Bool
is_by moment dated = nat_le dated.moment moment

-- the range ends where a file may end
abbrev pub fits : Change → Bool
fits (Write file offset bytes) = nat_le (offset + length bytes) (2 ^ 64 - 1)
fits (Broken file offset n) = nat_le (offset + n) (2 ^ 64 - 1)
fits (Sync file) = true

abbrev pub is_in_range : DatedChange → Bool
is_in_range dated = fits dated.change

-- from these files on, the image is one of a crash after so many calls and before any other
abbrev pub IsImageAfter : Files → List DatedChange → ℕ → Files → Type 0
IsImageAfter first changes moment image = IsLeftAfter first (λ (was : Files). was ≡ first) (filter (is_by moment) changes) image

-- the same, before the next call has returned
abbrev pub IsImageAt : Files → List DatedChange → ℕ → ℕ → Files → Type 0
IsImageAt first changes clock moment image = IsImageAfter first changes moment image ⊎ ((moment < clock) × IsImageAfter first changes (moment + 1) image)
