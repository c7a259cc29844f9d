-- The pages of the three levels, as contracts see them and as they are spelled. The layout is this engine's own.
use Rattle.std.specs.Prelude.{◌≡◌, ℕ, ◌<◌, ◌^◌, List, ◌++◌, length, drop}
use Rattle.seg_words.specs.Types.{w32, w64, to_be_bytes, number_in, PAGE_HEAD_SIZE}
use Rattle.page_bytes.specs.Types.{page_of, head_bytes}
use Rattle.bitmap_block.specs.Codes.{CODES_OF_L1, MAP_HEAD_SIZE, AreCodes, codes_in}

-- The first level covers an extent: the LSN by which a table got it, and the code of each of up to 64 blocks.
pub record ExtentMap : Type 0 where
  pub dba : ℕ
  pub lsn : ℕ
  pub incarnation : ℕ
  pub codes : List ℕ

-- A level above covers blocks of the level below, with the best code of each.
pub record Summary : Type 0 where
  pub dba : ℕ
  pub lsn : ℕ
  pub codes : List ℕ

abbrev pub front_of_map : ExtentMap → List ℕ
front_of_map m = head_bytes 7 0 0 m.dba m.lsn ++ to_be_bytes w64 m.incarnation ++ m.codes

unfoldable pub spelling_of_map : ExtentMap → List ℕ
spelling_of_map m = page_of (front_of_map m)

abbrev pub front_of_summary : ℕ → Summary → List ℕ
front_of_summary kind s = head_bytes kind 0 0 s.dba s.lsn ++ s.codes

unfoldable pub spelling_of_summary : ℕ → Summary → List ℕ
spelling_of_summary kind s = page_of (front_of_summary kind s)

-- what some bytes read as, each field as the nearest value that has a spelling
unfoldable pub map_in : List ℕ → ExtentMap
map_in bytes = record { dba = number_in w32 bytes 4; lsn = number_in w64 bytes 8; incarnation = number_in w64 bytes PAGE_HEAD_SIZE; codes = codes_in CODES_OF_L1 (drop MAP_HEAD_SIZE bytes) }

unfoldable pub summary_in : ℕ → List ℕ → Summary
summary_in n bytes = record { dba = number_in w32 bytes 4; lsn = number_in w64 bytes 8; codes = codes_in n (drop PAGE_HEAD_SIZE bytes) }

-- the values that have a spelling
pub record IsMap (m : ExtentMap) : Type 0 where
  pub dba : m.dba < 2 ^ 32
  pub lsn : m.lsn < 2 ^ 64
  pub incarnation : m.incarnation < 2 ^ 64
  pub count : length m.codes ≡ CODES_OF_L1
  pub codes : AreCodes m.codes

pub record IsSummary (n : ℕ) (s : Summary) : Type 0 where
  pub dba : s.dba < 2 ^ 32
  pub lsn : s.lsn < 2 ^ 64
  pub count : length s.codes ≡ n
  pub codes : AreCodes s.codes
