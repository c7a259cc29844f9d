-- The transaction table as contracts see it, and which entry is used next.
use Rattle.std.specs.Prelude.{◌≡◌, ◌⊎◌, ℕ, ◌<◌, ◌≤◌, Bool, true, false, List, length, slice_index_or, nat_le, Option, Some, None, if◌then◌else◌}
use Rattle.txn_block.specs.OwnTypes.{TableEntry, Unused}
use Rattle.txn_block.specs.Entries.{is_unused, is_rolled_back, committed, is_active}

pub record TxnTable : Type 0 where
  pub dba : ℕ
  pub lsn : ℕ
  pub control : ℕ
  pub last_txn : ℕ
  pub last_row : ℕ
  pub current_undo : Option ℕ
  pub entries : List TableEntry

-- the ith entry; there are 96
abbrev pub entry_at : List TableEntry → ℕ → TableEntry
entry_at entries i = slice_index_or entries i Unused

abbrev pub NoneBelow : (TableEntry → Bool) → List TableEntry → ℕ → Type 0
NoneBelow p entries n = (j : ℕ) → j < n → p (entry_at entries j) ≡ false

-- the least unused entry
pub record TakesUnused (entries : List TableEntry) (before i control : ℕ) : Type 0 where
  pub within : i < length entries
  pub unused : is_unused (entry_at entries i) ≡ true
  pub least : NoneBelow is_unused entries i
  pub control_stays : control ≡ before

-- else the least entry of a rolled-back transaction
pub record TakesRolledBack (entries : List TableEntry) (before i control : ℕ) : Type 0 where
  pub within : i < length entries
  pub no_unused : NoneBelow is_unused entries (length entries)
  pub rolled_back : is_rolled_back (entry_at entries i) ≡ true
  pub least : NoneBelow is_rolled_back entries i
  pub control_stays : control ≡ before

-- else the committed entry with the least commit number, which the control number becomes
pub record TakesCommitted (entries : List TableEntry) (i control : ℕ) : Type 0 where
  pub within : i < length entries
  pub no_unused : NoneBelow is_unused entries (length entries)
  pub no_rolled_back : NoneBelow is_rolled_back entries (length entries)
  pub number : committed (entry_at entries i) ≡ Some control
  pub least : (j c : ℕ) → j < length entries → committed (entry_at entries j) ≡ Some c → control ≤ c

-- The entry that is used next and the control number after it; none exactly where each is that of an active
-- transaction.
abbrev pub TakesNext : List TableEntry → ℕ → Option (ℕ × ℕ) → Type 0
TakesNext entries before None = (j : ℕ) → j < length entries → is_active (entry_at entries j) ≡ true
TakesNext entries before (Some x) = TakesUnused entries before x.0 x.1 ⊎ (TakesRolledBack entries before x.0 x.1 ⊎ TakesCommitted entries x.0 x.1)

-- the first entry that passes a test, if there is one
abbrev pub IsFirst : (TableEntry → Bool) → List TableEntry → Option ℕ → Type 0
IsFirst p entries None = NoneBelow p entries (length entries)
IsFirst p entries (Some i) = (i < length entries) × ((p (entry_at entries i) ≡ true) × NoneBelow p entries i)

-- the committed entry with the least commit number, among the first n
pub record IsLeast (entries : List TableEntry) (n i c : ℕ) : Type 0 where
  pub within : i < n
  pub number : committed (entry_at entries i) ≡ Some c
  pub least : (j d : ℕ) → j < n → committed (entry_at entries j) ≡ Some d → c ≤ d

abbrev pub LeastBelow : List TableEntry → ℕ → Option (ℕ × ℕ) → Type 0
LeastBelow entries n None = (j : ℕ) → j < n → committed (entry_at entries j) ≡ None
LeastBelow entries n (Some x) = IsLeast entries n x.0 x.1

-- the lesser of two commit numbers, each with its place; of equal ones the first
abbrev pub lesser : Option (ℕ × ℕ) → ℕ → Option ℕ → Option (ℕ × ℕ)
lesser best place None = best
lesser None place (Some n) = Some (place, n)
lesser (Some b) place (Some n) = if nat_le b.1 n then Some b else Some (place, n)
