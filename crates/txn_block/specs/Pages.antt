-- The page of the transaction table.
use Rattle.std.specs.Prelude.{◌≡◌, ℕ, zero, suc, ◌<◌, ◌^◌, List, ◌++◌, length, drop, Option, Some, None, flat_map}
use Rattle.seg_words.specs.Types.{w32, w64, to_be_bytes, AllByRecursion, number_in, TXN_ENTRIES}
use Rattle.page_bytes.specs.Types.{page_of, head_bytes, pieces_in}
use Rattle.txn_block.specs.OwnTypes.{TableEntry}
use Rattle.txn_block.specs.Tables.{TxnTable}
use Rattle.txn_block.specs.EntryBytes.{entry_bytes, entry_in, IsEntry}

-- an undo block, or 0 for none
abbrev pub block_or_zero : Option ℕ → ℕ
block_or_zero None = 0
block_or_zero (Some b) = b

abbrev pub block_from : ℕ → Option ℕ
block_from zero = None
block_from (suc b) = Some (suc b)

-- the numbers before the entries, and four zeros
abbrev pub number_bytes : ℕ → ℕ → ℕ → Option ℕ → List ℕ
number_bytes control last_txn last_row current_undo = to_be_bytes w64 control ++ (to_be_bytes w64 last_txn ++ (to_be_bytes w64 last_row ++ (to_be_bytes w32 (block_or_zero current_undo) ++ to_be_bytes w32 0)))

abbrev pub front : TxnTable → List ℕ
front t = (head_bytes 2 0 0 t.dba t.lsn ++ number_bytes t.control t.last_txn t.last_row t.current_undo) ++ flat_map entry_bytes t.entries

unfoldable pub spelling : TxnTable → List ℕ
spelling t = page_of (front t)

-- what some bytes read as, each field as the nearest value that has a spelling
unfoldable pub table_in : List ℕ → TxnTable
table_in bytes = record {
  dba = number_in w32 bytes 4;
  lsn = number_in w64 bytes 8;
  control = number_in w64 bytes 16;
  last_txn = number_in w64 bytes 24;
  last_row = number_in w64 bytes 32;
  current_undo = block_from (number_in w32 bytes 40);
  entries = pieces_in entry_in 32 TXN_ENTRIES (drop 48 bytes);
}

abbrev pub BlockFits : Option ℕ → Type 0
BlockFits None = Unit {0}
BlockFits (Some b) = (0 < b) × (b < 2 ^ 32)

-- what each table has: 96 entries that have a spelling
pub record HasEntries (current : Option ℕ) (entries : List TableEntry) : Type 0 where
  pub undo : BlockFits current
  pub count : length entries ≡ TXN_ENTRIES
  pub each : AllByRecursion IsEntry entries

-- the tables that have a spelling
pub record IsTable (t : TxnTable) : Type 0 where
  pub dba : t.dba < 2 ^ 32
  pub lsn : t.lsn < 2 ^ 64
  pub control : t.control < 2 ^ 64
  pub last_txn : t.last_txn < 2 ^ 64
  pub last_row : t.last_row < 2 ^ 64
  pub current_undo : BlockFits t.current_undo
  pub count : length t.entries ≡ TXN_ENTRIES
  pub entries : AllByRecursion IsEntry t.entries
