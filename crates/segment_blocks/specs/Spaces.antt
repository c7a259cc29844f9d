-- The space bitmap: which extents of the store are in use (Oracle Database Concepts, "Extent Management": a locally
-- managed tablespace tracks extents in bitmaps). The layout is this engine's own.
use Rattle.std.specs.Prelude.{◌≡◌, ℕ, ◌-◌, ◌*◌, ◌/◌, ◌%◌, ◌<◌, ◌^◌, ◌==◌, Bool, true, false, List, ◌++◌, length, slice_index, slice_set, take, drop, Option, MatchOption, cond, bit_and, bit_or}
use Rattle.seg_words.specs.Types.{w32, w64, to_be_bytes, number_in}
use Rattle.page_bytes.specs.Types.{page_of, head_bytes}
use Rattle.std.specs.Int.{w8, bit_not}

-- how often a table's marks were lowered, and a bit for each of 2,043 extents in 256 bytes
pub record Space : Type 0 where
  pub dba : ℕ
  pub lsn : ℕ
  pub lowerings : ℕ
  pub bits : List ℕ

-- extent x is in use: the first extent of a byte has its highest bit
abbrev pub is_used : List ℕ → ℕ → Bool
is_used bits x = slice_index bits (x / 8) / 2 ^ (7 - x % 8) % 2 == 1

abbrev pub with_bit : ℕ → ℕ → Bool → ℕ
with_bit b k on = cond on (bit_or b (1 * 2 ^ k % 2 ^ 8)) (bit_and b (bit_not w8 (1 * 2 ^ k % 2 ^ 8)))

-- the bits with that of one extent written anew
abbrev pub with_extent : List ℕ → ℕ → Bool → List ℕ
with_extent bits x used = slice_set bits (x / 8) (with_bit (slice_index bits (x / 8)) (7 - x % 8) used)

-- each extent below n is in use
abbrev pub AreUsed : List ℕ → ℕ → Type 0
AreUsed bits n = (x : ℕ) → x < n → is_used bits x ≡ true

-- x is the least of the first n extents that isn't in use
pub record IsLeastFree (bits : List ℕ) (n x : ℕ) : Type 0 where
  pub within : x < n
  pub free : is_used bits x ≡ false
  pub before : AreUsed bits x

-- of the first n extents, the least that isn't in use, or each is
abbrev pub Finds : List ℕ → ℕ → Option ℕ → Type 0
Finds bits n found = MatchOption found (AreUsed bits n) (λ x. IsLeastFree bits n x)

abbrev pub front_of_space : Space → List ℕ
front_of_space s = head_bytes 4 0 0 s.dba s.lsn ++ to_be_bytes w64 s.lowerings ++ s.bits

unfoldable pub spelling_of_space : Space → List ℕ
spelling_of_space s = page_of (front_of_space s)

-- there are 2,043 extents at most, so the last five bits are none
abbrev pub bits_in : List ℕ → List ℕ
bits_in bytes = slice_set (take 256 bytes) 255 (slice_index (take 256 bytes) 255 / 32 * 32)

unfoldable pub space_in : List ℕ → Space
space_in bytes = record { dba = number_in w32 bytes 4; lsn = number_in w64 bytes 8; lowerings = number_in w64 bytes 16; bits = bits_in (drop 24 bytes) }

pub record HasBits (bits : List ℕ) : Type 0 where
  pub count : length bits ≡ 256
  pub spare : slice_index bits 255 / 32 * 32 ≡ slice_index bits 255

pub record IsSpace (s : Space) : Type 0 where
  pub dba : s.dba < 2 ^ 32
  pub lsn : s.lsn < 2 ^ 64
  pub lowerings : s.lowerings < 2 ^ 64
  pub bits : HasBits s.bits
