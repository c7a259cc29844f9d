-- The page of an undo block: its one spelling, and what the fields of any page read as. The layout is this engine's own.
use Rattle.std.specs.Prelude.{◌≡◌, ℕ, zero, suc, ◌<◌, ◌≤◌, ◌^◌, nat_lt, if◌then◌else◌, List, [], ◌∷◌, ◌++◌, length, slice_index, take, drop, replicate, Option, Some, None, Result, Ok, Err, flat_map}
use Rattle.seg_words.specs.Types.{w16, w32, w64, to_be_bytes, AllByRecursion, UndoPlace, number_in, slot_bytes, BLOCK_SIZE, BLOCK_ROOM, UNDO_PART_SIZE}
use Rattle.page_bytes.specs.Types.{page_of, head_bytes, first_wrong, fields_in, row_len, slot_as, IsSlot}
use Rattle.undo_block.specs.declared.part.Part.{Part}
use Rattle.undo_block.specs.declared.fault.UndoFault.{UndoFault}
use Rattle.undo_block.specs.declared.fault.UndoFault.TheVariants.{NoRoom, BadPage, NoMemory}
use Rattle.undo_block.specs.Parts.{used_by}

-- how often the block was taken into use, and the parts since the last time
pub record UndoPage : Type 0 where
  pub dba : ℕ
  pub lsn : ℕ
  pub sequence : ℕ
  pub parts : List Part

-- no place is written as block 0, place 0
abbrev pub previous_or_zeros : Option UndoPlace → UndoPlace
previous_or_zeros None = record { block = 0; nth = 0 }
previous_or_zeros (Some p) = p

abbrev pub previous_as : ℕ → ℕ → Option UndoPlace
previous_as zero nth = None
previous_as (suc b) nth = Some (record { block = suc b; nth = nth })

-- the 24 bytes before the old slot
abbrev pub part_head : Part → List ℕ
part_head p = to_be_bytes w64 p.txn ++ to_be_bytes w32 (previous_or_zeros p.previous).block ++ (previous_or_zeros p.previous).nth
    ∷ to_be_bytes w32 p.dba ++ p.slot ∷ p.parts ∷ replicate 5 0

unfoldable pub part_bytes : Part → List ℕ
part_bytes p = part_head p ++ slot_bytes p.old ++ p.old.bytes

-- what stands between the page's head and the parts
abbrev pub fields_of : ℕ → List Part → List ℕ
fields_of sequence ps = to_be_bytes w64 sequence ++ to_be_bytes w16 (used_by ps) ++ to_be_bytes w16 (length ps) ++ replicate 36 0

abbrev pub front_of : UndoPage → List ℕ
front_of u = head_bytes 6 0 0 u.dba u.lsn ++ fields_of u.sequence u.parts ++ flat_map part_bytes u.parts

unfoldable pub spelling : UndoPage → List ℕ
spelling u = page_of (front_of u)

-- how long the row of a part is, by the part's 64 bytes
abbrev pub len_in : List ℕ → ℕ
len_in g = row_len (fields_in (drop 24 g))

-- the part in 64 bytes with this row
abbrev pub part_from : List ℕ → List ℕ → Part
part_from g row = record {
  txn = number_in w64 g 0;
  previous = previous_as (number_in w32 g 8) (slice_index g 12);
  dba = number_in w32 g 13;
  slot = slice_index g 17;
  parts = slice_index g 18;
  old = slot_as (fields_in (drop 24 g)) row;
}

-- at most n parts one behind the other: they end where no 64 bytes are left, and a row that is cut short is what is there
unfoldable pub parts_in : ℕ → List ℕ → List Part
parts_in zero bytes = []
parts_in (suc n) bytes =
    if nat_lt (length bytes) UNDO_PART_SIZE then []
    else part_from (take UNDO_PART_SIZE bytes) (take (len_in (take UNDO_PART_SIZE bytes)) (drop UNDO_PART_SIZE bytes)) ∷ parts_in n (drop (len_in (take UNDO_PART_SIZE bytes)) (drop UNDO_PART_SIZE bytes))

unfoldable pub page_in : List ℕ → UndoPage
page_in bytes = record { dba = number_in w32 bytes 4; lsn = number_in w64 bytes 8; sequence = number_in w64 bytes 16; parts = parts_in (number_in w16 bytes 26) (drop UNDO_PART_SIZE bytes) }

abbrev pub PlaceFits : Option UndoPlace → Type 0
PlaceFits None = Unit {0}
PlaceFits (Some p) = (0 < p.block) × (p.block < 2 ^ 32) × (p.nth < 2 ^ 8)

-- the parts that have a spelling
pub record IsPart (p : Part) : Type 0 where
  pub txn : p.txn < 2 ^ 64
  pub previous : PlaceFits p.previous
  pub dba : p.dba < 2 ^ 32
  pub old : IsSlot p.old

pub record IsUndoPage (u : UndoPage) : Type 0 where
  pub dba : u.dba < 2 ^ 32
  pub lsn : u.lsn < 2 ^ 64
  pub sequence : u.sequence < 2 ^ 64
  pub parts : AllByRecursion IsPart u.parts
  pub used : used_by u.parts ≤ BLOCK_ROOM

-- The result of decoding a page: the block that it spells, or the first byte that differs from the spelling of what its
-- fields read as.
abbrev pub Decodes : List ℕ → Result UndoPage UndoFault → Type 0
Decodes bytes (Ok u) = (u ≡ page_in bytes) × (bytes ≡ spelling u)
Decodes bytes (Err (BadPage at)) = (at ≡ first_wrong bytes (spelling (page_in bytes))) × (at < BLOCK_SIZE)
Decodes bytes (Err NoMemory) = Unit {0}
Decodes bytes (Err (NoRoom n f)) = ⊥

-- the result of decoding the spelling of u: u, unless memory was refused
abbrev pub IsReadAs : UndoPage → Result UndoPage UndoFault → Type 0
IsReadAs u (Ok v) = v ≡ u
IsReadAs u (Err (BadPage at)) = ⊥
IsReadAs u (Err NoMemory) = Unit {0}
IsReadAs u (Err (NoRoom n f)) = ⊥
