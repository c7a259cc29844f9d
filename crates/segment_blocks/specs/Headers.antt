-- A segment's header: its table, what its statements said of it, its marks and its extents (Oracle Database Concepts,
-- "Segments", "Segment Space and the High Water Mark"). The layout is this engine's own.
use Rattle.std.specs.Prelude.{ℕ, zero, suc, ◌<◌, ◌≤◌, ◌^◌, min, max, Bool, true, false, List, [], ◌∷◌, ◌++◌, length, slice_index, drop, replicate, Option, Some, None, flat_map}
use Rattle.seg_words.specs.Types.{AllByRecursion, w16, w32, w64, to_be_bytes, number_in, MOST_PCTFREE, MOST_TABLES, MOST_EXTENTS}
use Rattle.page_bytes.specs.Types.{page_of, head_bytes, pieces_in}

-- the table, its PCTFREE, whether its rows may be moved, its low and high water marks, its extents in order of index
pub record Header : Type 0 where
  pub dba : ℕ
  pub lsn : ℕ
  pub obj : ℕ
  pub pctfree : ℕ
  pub movement : Bool
  pub low : ℕ
  pub high : ℕ
  pub extents : List ℕ

abbrev pub flag : Bool → ℕ
flag false = 0
flag true = 1

abbrev pub extent_bytes : ℕ → List ℕ
extent_bytes x = to_be_bytes w32 x

abbrev pub extent_in : List ℕ → ℕ
extent_in g = number_in w32 g 0

-- what stands between the head and the extents, up to byte 64
abbrev pub fields_of : ℕ → ℕ → Bool → ℕ → ℕ → ℕ → List ℕ
fields_of obj pctfree movement low high count =
    obj ∷ pctfree ∷ flag movement ∷ 0 ∷ to_be_bytes w32 low ++ to_be_bytes w32 high ++ to_be_bytes w16 count ++ replicate 34 0

abbrev pub front_of_header : Header → List ℕ
front_of_header h = head_bytes 10 0 0 h.dba h.lsn ++ fields_of h.obj h.pctfree h.movement h.low h.high (length h.extents) ++ flat_map extent_bytes h.extents

unfoldable pub spelling_of_header : Header → List ℕ
spelling_of_header h = page_of (front_of_header h)

abbrev pub is_on : ℕ → Bool
is_on zero = false
is_on (suc n) = true

-- a table's number is 1 to 32, PCTFREE is at most 50, a table has at most 900 extents
abbrev pub obj_in : ℕ → ℕ
obj_in n = max 1 (min n MOST_TABLES)

abbrev pub header_with : ℕ → List ℕ → Header
header_with count bytes = record {
  dba = number_in w32 bytes 4;
  lsn = number_in w64 bytes 8;
  obj = obj_in (slice_index bytes 16);
  pctfree = min (slice_index bytes 17) MOST_PCTFREE;
  movement = is_on (slice_index bytes 18);
  low = number_in w32 bytes 20;
  high = number_in w32 bytes 24;
  extents = pieces_in extent_in 4 count (drop 64 bytes);
}

unfoldable pub header_in : List ℕ → Header
header_in bytes = header_with (min (number_in w16 bytes 28) MOST_EXTENTS) bytes

pub record IsHeader (h : Header) : Type 0 where
  pub dba : h.dba < 2 ^ 32
  pub lsn : h.lsn < 2 ^ 64
  pub least_obj : 1 ≤ h.obj
  pub most_obj : h.obj ≤ MOST_TABLES
  pub pctfree : h.pctfree ≤ MOST_PCTFREE
  pub low : h.low < 2 ^ 32
  pub high : h.high < 2 ^ 32
  pub count : length h.extents ≤ MOST_EXTENTS
  pub extents : AllByRecursion (λ x. x < 2 ^ 32) h.extents

-- the ranges of a table's number, of its PCTFREE and of how many extents it has
pub record HasLimits (o p n : ℕ) : Type 0 where
  pub least_obj : 1 ≤ o
  pub most_obj : o ≤ MOST_TABLES
  pub pctfree : p ≤ MOST_PCTFREE
  pub count : n ≤ MOST_EXTENTS

-- the extent at an index
abbrev pub extent_at : List ℕ → ℕ → Option ℕ
extent_at [] i = None
extent_at (x ∷ xs) zero = Some x
extent_at (x ∷ xs) (suc i) = extent_at xs i
