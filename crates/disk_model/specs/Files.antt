-- The contents of the two files, and what a write makes of them.
use Rattle.std.specs.Prelude.{◌≡◌, ℕ, ◌+◌, ◌-◌, ◌^◌, ◌≤◌, min, max, List, ◌++◌, length, take, drop, replicate}
use Rattle.disk_model.specs.declared.disk.File.{File}
use Rattle.disk_model.specs.declared.disk.File.TheVariants.{Data, Log}

-- both files at once
pub record Files : Type 0 where
  pub data_bytes : List ℕ
  pub log_bytes : List ℕ

abbrev pub content : File → Files → List ℕ
content Data files = files.data_bytes
content Log files = files.log_bytes

-- the files with these bytes as the content of one of them
abbrev pub put : File → List ℕ → Files → Files
put Data bytes files = record { data_bytes = bytes; log_bytes = files.log_bytes }
put Log bytes files = record { data_bytes = files.data_bytes; log_bytes = bytes }

-- old with these bytes at this offset, and zeros in the gap where the offset lies past the end
abbrev pub written : List ℕ → ℕ → List ℕ → List ℕ
written old at bytes = take at old ++ replicate (at - length old) 0 ++ bytes ++ drop (at + length bytes) old

-- after a write of n bytes that a crash cuts short: any bytes in the range and past the old end, the same elsewhere,
-- and a length between the old one and the new
pub record Torn (at n : ℕ) (old new : List ℕ) : Type 0 where
  pub before : take (min at (length old)) new ≡ take at old
  pub after : drop (at + n) new ≡ drop (at + n) old
  pub no_shorter : length old ≤ length new
  pub no_longer : length new ≤ max (length old) (at + n)

-- the same of one of the two files, while the other stays
pub record TornFile (file : File) (at n : ℕ) (old new : Files) : Type 0 where
  pub torn : Torn at n (content file old) (content file new)
  pub other : new ≡ put file (content file new) old

-- no file is longer than 2^64 - 1 bytes
pub record AreShort (files : Files) : Type 0 where
  pub data_short : length files.data_bytes ≤ 2 ^ 64 - 1
  pub log_short : length files.log_bytes ≤ 2 ^ 64 - 1
