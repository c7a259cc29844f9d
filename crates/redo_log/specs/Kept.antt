-- A list of redo records, the newest first, of which the older ones are on the disk and the newer ones wait as bytes.
use Rattle.std.specs.Prelude.{◌≡◌, ℕ, suc, ◌-◌, ◌^◌, ◌≤◌, min, List, [], ◌∷◌, ◌++◌, length}
use Rattle.redo_record.specs.declared.record.Record.{Record}
use Rattle.redo_record.specs.Spelling.{spelling}
use Rattle.redo_record.specs.Spelled.{HasSpelling}

-- some bytes, and for how many more there is room
pub record Waiting : Type 0 where
  pub bytes : List ℕ
  pub room : ℕ

-- the place of the log's closed gate, the numbers of the last stable record and of the last one, the bytes of those between
pub record Kept : Type 0 where
  pub end : ℕ
  pub stable : ℕ
  pub count : ℕ
  pub waiting : Waiting

-- the bytes of some records, one after the other from the oldest on
abbrev pub spelled : List Record → List ℕ
spelled [] = []
spelled (r ∷ R) = spelled R ++ spelling r

abbrev pub AreSpelled : List Record → Type 0
AreSpelled [] = Unit {0}
AreSpelled (r ∷ R) = AreSpelled R × HasSpelling r

-- the number of a list's last record, which ends at 2^64 - 1
abbrev pub last_number : List Record → ℕ
last_number R = min (length R) (2 ^ 64 - 1)

-- The log has the records R: the older ones are stable, the newer ones wait.
pub record HasRecords (R : List Record) (log : Kept) : Type 0 where
  pub newer : List Record
  pub older : List Record
  pub split : R ≡ newer ++ older
  pub stable : log.stable ≡ last_number older
  pub count : log.count ≡ last_number R
  pub bytes : log.waiting.bytes ≡ spelled newer
  pub spelled : AreSpelled newer

-- the records of the groups, one group after the other, lead from the list R0 to R
abbrev pub Holds : List (List ℕ) → List Record → List Record → Type 0
Holds [] R0 R = R ≡ R0
Holds (payload ∷ groups) R0 R = (newer : List Record) × (payload ≡ spelled newer) × AreSpelled newer × Holds groups (newer ++ R0) R

-- the groups with one more, where it holds anything
abbrev pub with_group : List (List ℕ) → List ℕ → List (List ℕ)
with_group groups [] = groups
with_group groups (b ∷ bytes) = groups ++ (b ∷ bytes) ∷ []

-- The same over the log's groups: from the list R0 on they hold the stable records.
pub record HasList (groups : List (List ℕ)) (R0 R : List Record) (log : Kept) : Type 0 where
  pub has : HasRecords R log
  pub holds : Holds groups R0 has.older

-- A refusal leaves the list, and no less room.
pub record Stays (old new : Kept) : Type 0 where
  pub end : new.end ≡ old.end
  pub stable : new.stable ≡ old.stable
  pub count : new.count ≡ old.count
  pub bytes : new.waiting.bytes ≡ old.waiting.bytes
  pub room : old.waiting.room ≤ new.waiting.room
