-- A record at a place of some bytes, and what decoding answers there.
use Rattle.std.specs.Prelude.{◌≡◌, ℕ, ◌+◌, List, ◌++◌, length, drop, Result, Ok, Err}
use Rattle.redo_record.specs.OwnTypes.{Record, RecordFault, BadRecord, NoMemory, ReadFault}
use Rattle.redo_record.specs.Spelling.{spelling}
use Rattle.redo_record.specs.Spelled.{HasSpelling}
use Rattle.redo_record.specs.declared.fault.ReadFault.TheVariants as faults

-- the spelling of a record stands at a place, and ends before the next one
pub record StandsAt (rec : Record) (bytes : List ℕ) (at next : ℕ) : Type 0 where
  pub has : HasSpelling rec
  pub spelled : drop at bytes ≡ spelling rec ++ drop next bytes
  pub ends : next ≡ at + length (spelling rec)

abbrev pub Decodes : List ℕ → ℕ → Result (Record × ℕ) RecordFault → Type 0
Decodes bytes at (Ok x) = StandsAt x.0 bytes at x.1
Decodes bytes at (Err (BadRecord offset)) = (offset ≡ at) × ((rec : Record) (next : ℕ) → StandsAt rec bytes at next → ⊥)
Decodes bytes at (Err NoMemory) = Unit {0}

-- the record that stands there is answered, unless memory ran out
abbrev pub IsReadAs : Record → ℕ → Result (Record × ℕ) RecordFault → Type 0
IsReadAs rec next (Ok x) = (x.0 ≡ rec) × (x.1 ≡ next)
IsReadAs rec next (Err (BadRecord offset)) = ⊥
IsReadAs rec next (Err NoMemory) = Unit {0}

-- the spelling of a record stands in front of some bytes, and takes so many of them
pub record StandsInFront (rec : Record) (bytes : List ℕ) (len : ℕ) : Type 0 where
  pub has : HasSpelling rec
  pub spelled : bytes ≡ spelling rec ++ drop len bytes
  pub ends : len ≡ length (spelling rec)

-- What reading the record in front answers.
abbrev pub IsFirst : List ℕ → Result (Record × ℕ) ReadFault → Type 0
IsFirst bytes (Ok x) = StandsInFront x.0 bytes x.1
IsFirst bytes (Err faults.NotARecord) = (rec : Record) (rest : List ℕ) → HasSpelling rec → bytes ≡ spelling rec ++ rest → ⊥
IsFirst bytes (Err faults.NoMemory) = Unit {0}
