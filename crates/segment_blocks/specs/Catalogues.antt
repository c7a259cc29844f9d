-- The catalogue: the tables of a store by name (Oracle Database Concepts, "Data Dictionary"). That it is one block with
-- room for 32 tables, and its layout, is this engine's own.
use Rattle.std.specs.Prelude.{◌≡◌, ℕ, zero, suc, ◌+◌, ◌-◌, ◌<◌, ◌^◌, min, Bool, true, false, List, [], ◌∷◌, ◌++◌, length, slice_index, take, drop, replicate, if◌then◌else◌, Option, Some, None, option_map, position, count_by, flat_map, bytes_eq}
use Rattle.seg_words.specs.Types.{AllByRecursion, w32, w64, to_be_bytes, number_in, is_name, MOST_TABLES, LONGEST_NAME}
use Rattle.page_bytes.specs.Types.{page_of, head_bytes, pieces_in}
use Rattle.segment_blocks.specs.declared.entry.CatalogueEntry.{CatalogueEntry}
use Rattle.segment_blocks.specs.declared.entry.NamedTable.{NamedTable}

-- one entry for each table's number from 1
pub record Tables : Type 0 where
  pub dba : ℕ
  pub lsn : ℕ
  pub entries : List CatalogueEntry

abbrev pub no_table : CatalogueEntry
no_table = record { table = None }

abbrev pub is_table : Option NamedTable → Bool
is_table None = false
is_table (Some t) = true

abbrev pub is_named_so : List ℕ → Option NamedTable → Bool
is_named_so name None = false
is_named_so name (Some t) = bytes_eq t.name name

abbrev pub has_table : CatalogueEntry → Bool
has_table e = is_table e.table

abbrev pub is_named : List ℕ → CatalogueEntry → Bool
is_named name e = is_named_so name e.table

-- the number of the first table with this name
abbrev pub table_named : List CatalogueEntry → List ℕ → Option ℕ
table_named es name = option_map (λ i. i + 1) (position (is_named name) es)

abbrev pub table_count : List CatalogueEntry → ℕ
table_count es = count_by has_table es

abbrev pub header_of_table : Option NamedTable → Option ℕ
header_of_table None = None
header_of_table (Some t) = Some t.header

-- the header block of table o
abbrev pub header_of : List CatalogueEntry → ℕ → Option ℕ
header_of es zero = None
header_of [] (suc i) = None
header_of (e ∷ es) (suc zero) = header_of_table e.table
header_of (e ∷ es) (suc (suc i)) = header_of es (suc i)

-- 64 bytes: the length of the name, the name in 30 bytes, the header block, zeros; all zeros for no table
abbrev pub spelled_table : Option NamedTable → List ℕ
spelled_table None = replicate 64 0
spelled_table (Some t) = length t.name ∷ take LONGEST_NAME t.name ++ replicate (LONGEST_NAME - length t.name) 0 ++ to_be_bytes w32 t.header ++ replicate 29 0

abbrev pub spelled_entry : CatalogueEntry → List ℕ
spelled_entry e = spelled_table e.table

abbrev pub name_bytes : List ℕ → List ℕ
name_bytes g = take (min (slice_index g 0) LONGEST_NAME) (drop 1 g)

-- an entry whose name is none reads as no table
abbrev pub entry_in : List ℕ → CatalogueEntry
entry_in g = record { table = if is_name (name_bytes g) then Some (record { name = name_bytes g; header = number_in w32 g 31 }) else None }

abbrev pub IsTable : Option NamedTable → Type 0
IsTable None = Unit {0}
IsTable (Some t) = (is_name t.name ≡ true) × (t.header < 2 ^ 32)

abbrev pub IsCatalogueEntry : CatalogueEntry → Type 0
IsCatalogueEntry e = IsTable e.table

abbrev pub front_of_tables : Tables → List ℕ
front_of_tables t = head_bytes 3 0 0 t.dba t.lsn ++ flat_map spelled_entry t.entries

unfoldable pub spelling_of_tables : Tables → List ℕ
spelling_of_tables t = page_of (front_of_tables t)

unfoldable pub tables_in : List ℕ → Tables
tables_in bytes = record { dba = number_in w32 bytes 4; lsn = number_in w64 bytes 8; entries = pieces_in entry_in 64 MOST_TABLES (drop 16 bytes) }

pub record IsCatalogue (t : Tables) : Type 0 where
  pub dba : t.dba < 2 ^ 32
  pub lsn : t.lsn < 2 ^ 64
  pub count : length t.entries ≡ MOST_TABLES
  pub entries : AllByRecursion IsCatalogueEntry t.entries
