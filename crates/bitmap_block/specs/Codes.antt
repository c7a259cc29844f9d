-- Class codes in a bitmap block: 0 for a block that isn't formatted or no data, 1 for a full one, 2 to 5 for quarters of
-- free space. Oracle Database Concepts: a bitmap in the segment tells the status of each block. The codes and the levels
-- are this engine's own.
use Rattle.std.specs.Prelude.{◌≡◌, ℕ, ◌<◌, ◌≤◌, min, max, nat_lt, if◌then◌else◌, List, [], ◌∷◌, length, map, take, slice_index, ◌++◌, drop, replicate}
pub use Rattle.bitmap_block.specs.declared.limit.TheConstants.{GREATEST_CODE, LEAST_GOOD_CODE, CODES_OF_L1, MAP_HEAD_SIZE}

-- a code from 2 on, else 0
abbrev pub good_code : ℕ → ℕ
good_code c = if nat_lt c LEAST_GOOD_CODE then 0 else c

-- the greatest code from 2 on, else 0
abbrev pub best_of : List ℕ → ℕ
best_of [] = 0
best_of (c ∷ cs) = max (good_code c) (best_of cs)

-- each is a code
abbrev pub AreCodes : List ℕ → Type 0
AreCodes codes = (i : ℕ) → i < length codes → slice_index codes i ≤ GREATEST_CODE

-- n codes
pub record HasCodes (n : ℕ) (codes : List ℕ) : Type 0 where
  pub count : length codes ≡ n
  pub each : AreCodes codes

-- the first n of these bytes as codes, each as the nearest that there is
abbrev pub codes_in : ℕ → List ℕ → List ℕ
codes_in n bytes = map (λ b. min b GREATEST_CODE) (take n bytes)

-- n codes of which those from the ith on are taken away
abbrev pub cleared_from : ℕ → ℕ → List ℕ → List ℕ
cleared_from n i codes = take i codes ++ drop i (replicate n 0)
