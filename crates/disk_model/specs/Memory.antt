-- What the files in memory mean.
use Rattle.std.specs.Prelude.{◌≡◌, ℕ, ◌+◌, ◌-◌, ◌^◌, ◌≤◌, min, List, [], ◌∷◌, ◌++◌, Bool, ◌||◌, ◌==◌}
use Rattle.seg_words.specs.Types.{list_any}
use Rattle.disk_model.specs.Files.{Files}
use Rattle.disk_model.specs.Crash.{Meaning}
use Rattle.disk_model.specs.History.{both, seen_step, IsImageAt}
use Rattle.disk_model.specs.declared.memory.Memory.{Memory}
use Rattle.disk_model.specs.declared.memory.Change.{Change}

abbrev pub first_files : Memory → Files
first_files m = both m.first_data.items m.first_log.items

abbrev pub memory_files : Memory → Files
memory_files m = both m.data_bytes.items m.log_bytes.items

abbrev pub memory_crash_at : Memory → ℕ → Files → Type 0
memory_crash_at m moment image = IsImageAt (first_files m) m.changes.items m.clock moment image

abbrev pub memory_meaning : Meaning Memory
memory_meaning = record {
  told = λ _. Unit {0};
  files = memory_files;
  clock = λ m. m.clock;
  crash_at = memory_crash_at;
  fault_count = λ m. m.fault_count;
  log_reads = λ m. m.log_reads;
}

-- both files have these contents, all of them on the disk, no call was made, and these are to fail
pub record IsNew (files : Files) (fails : List ℕ) (m : Memory) : Type 0 where
  pub files_are : memory_files m ≡ files
  pub first_are : first_files m ≡ files
  pub no_change : m.changes.items ≡ []
  pub fails_are : m.fails.items ≡ fails
  pub no_call : m.clock ≡ 0
  pub no_fault : m.fault_count ≡ 0
  pub no_log_read : m.log_reads ≡ 0

-- a crash leaves what a read gives
abbrev pub IsDurable : Memory → Type 0
IsDurable m = (image : Files) → memory_crash_at m m.clock image → image ≡ memory_files m

-- the call after so many is to fail
abbrev pub fails_at : List ℕ → ℕ → Bool
fails_at fails clock = (clock == 2 ^ 64 - 1) || list_any (λ number. number == clock) fails

-- a call that changed nothing
pub record PassesOver (old new : Memory) : Type 0 where
  pub in_time : old.clock ≤ 2 ^ 64 - 1
  pub tick : new.clock ≡ min (old.clock + 1) (2 ^ 64 - 1)
  pub first : first_files new ≡ first_files old
  pub files : memory_files new ≡ memory_files old
  pub changes : new.changes.items ≡ old.changes.items

-- a call that made this change
pub record Adds (change : Change) (old new : Memory) : Type 0 where
  pub tick : new.clock ≡ old.clock + 1
  pub first : first_files new ≡ first_files old
  pub files : memory_files new ≡ seen_step change (memory_files old)
  pub changes : new.changes.items ≡ old.changes.items ++ record { moment = old.clock + 1; change = change } ∷ []

-- no call yet
pub record Stays (old new : Memory) : Type 0 where
  pub clock : new.clock ≡ old.clock
  pub first : first_files new ≡ first_files old
  pub files : memory_files new ≡ memory_files old
  pub changes : new.changes.items ≡ old.changes.items
