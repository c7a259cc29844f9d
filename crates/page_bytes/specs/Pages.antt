-- The pages of the data file, 4,096 bytes each: a front and zeros to the end. The layout is this engine's own.
use Rattle.std.specs.Prelude.{◌≡◌, ℕ, ◌-◌, ◌<◌, ◌==◌, List, ◌∷◌, ◌++◌, length, take, drop, replicate, Result, Ok, Err}
use Rattle.seg_words.specs.Types.{w32, w64, to_be_bytes, common_prefix_len, BLOCK_SIZE}
use Rattle.page_bytes.specs.declared.fault.PageFault.{PageFault}
use Rattle.page_bytes.specs.declared.fault.PageFault.TheVariants.{BadPage, NoMemory}

-- a front and the zeros behind it
abbrev pub page_of : List ℕ → List ℕ
page_of front = front ++ replicate (BLOCK_SIZE - length front) 0

-- bytes over those that stand at a place
abbrev pub over : List ℕ → ℕ → List ℕ → List ℕ
over page at bytes = take at page ++ (bytes ++ drop (length bytes) (drop at page))

-- a page that begins with these bytes, up to a place, and has zeros from there on
pub record IsFront (page front : List ℕ) (at : ℕ) : Type 0 where
  pub bytes : page ≡ page_of front
  pub place : at ≡ length front

-- what a page begins with: its kind, two small numbers, a zero, its block's number, its LSN
abbrev pub head_bytes : ℕ → ℕ → ℕ → ℕ → ℕ → List ℕ
head_bytes kind a b dba lsn = kind ∷ a ∷ b ∷ 0 ∷ to_be_bytes w32 dba ++ to_be_bytes w64 lsn

-- the first byte that is not of a spelling, the length where each is
abbrev pub first_wrong : List ℕ → List ℕ → ℕ
first_wrong bytes spelling = common_prefix_len (λ a b. a == b) bytes spelling

-- What decoding a page answered. The bytes are read leniently first, each field as the nearest value that has a
-- spelling: `meaning` says what is read so, and `spelling` what a value is written as.
abbrev pub Decodes : {P : Type 0} → (P → List ℕ) → (List ℕ → P) → List ℕ → Result P PageFault → Type 0
Decodes spelling meaning bytes (Ok p) = (p ≡ meaning bytes) × (bytes ≡ spelling p)
Decodes spelling meaning bytes (Err (BadPage at)) = (at ≡ first_wrong bytes (spelling (meaning bytes))) × (at < BLOCK_SIZE)
Decodes spelling meaning bytes (Err NoMemory) = Unit {0}

-- what decoding the spelling of p answered: p, unless memory ran out
abbrev pub IsReadAs : {P : Type 0} → P → Result P PageFault → Type 0
IsReadAs p (Ok q) = q ≡ p
IsReadAs p (Err (BadPage at)) = ⊥
IsReadAs p (Err NoMemory) = Unit {0}
