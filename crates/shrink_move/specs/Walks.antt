-- What is found of the data blocks of a table, by position.
use Rattle.std.specs.Prelude.{◌≡◌, ℕ, ◌<◌, Bool, true, false, cond, ◌&&◌, List, Option, Some, None}
use Rattle.seg_words.specs.Types.{Shape, Shrink}
use Rattle.redo_model.specs.Records.{Record}
use Rattle.redo_model.specs.Model.{code_of, is_formatted, pctfree_of, takes_row}
use Rattle.shrink_laws.specs.declared.skip.Skip.{Skip}
use Rattle.shrink_laws.specs.Stops.{IsAt, IsFull, is_skipped}
use Rattle.shrink_laws.specs.Cursor.{Cleared, Finds}
use Rattle.shrink_move.specs.declared.walking.Coded.{Coded}
use Rattle.shrink_move.specs.declared.come.Come.{Come}

-- the data block at a position, with its code
pub record IsCoded (sh : Shape) (R : List Record) (o position : ℕ) (c : Coded) : Type 0 where
  pub here : IsAt sh R o position c.dba
  pub code : c.code ≡ code_of sh R c.dba

-- whether the block at a position is formatted
pub record FormattedAt (sh : Shape) (R : List Record) (o position : ℕ) (y : Bool) : Type 0 where
  pub block : ℕ
  pub here : IsAt sh R o position block
  pub told : y ≡ is_formatted sh R block

-- ---- slots to come to

-- the slot with the greatest number of the block at a position that holds something and wasn't skipped
pub record StandsAt (sh : Shape) (R : List Record) (o : ℕ) (skips : List Skip) (position : ℕ) (x : Come) : Type 0 where
  pub place : x.place ≡ position
  pub here : IsAt sh R o position x.at.dba
  pub full : IsFull R x.at.dba x.at.slot
  pub fresh : is_skipped skips x.at.dba x.at.slot ≡ false
  pub greater : (j : ℕ) → x.at.slot < j → IsFull R x.at.dba j → is_skipped skips x.at.dba j ≡ true

-- it, or none where each that holds something was skipped
abbrev pub ComesAt : Shape → List Record → ℕ → List Skip → ℕ → Option Come → Type 0
ComesAt sh R o skips position None = (b k : ℕ) → IsAt sh R o position b → IsFull R b k → is_skipped skips b k ≡ true
ComesAt sh R o skips position (Some x) = StandsAt sh R o skips position x

-- the slot that the cursor comes to, or none down to the first position
abbrev pub ComesDown : Shape → List Record → ℕ → List Skip → ℕ → Option Come → Type 0
ComesDown sh R o skips cursor None = Cleared sh R o skips 0 cursor
ComesDown sh R o skips cursor (Some x) = Finds sh R o skips cursor x.place x.at.dba x.at.slot

-- ---- where a row may go

-- the block stands at a position below this one
pub record StandsBelow (sh : Shape) (R : List Record) (o n b : ℕ) : Type 0 where
  pub lower : ℕ
  pub there : IsAt sh R o lower b
  pub below : lower < n

abbrev pub IsBelow : Shape → List Record → ℕ → ℕ → ℕ → Bool → Type 0
IsBelow sh R o n b true = StandsBelow sh R o n b
IsBelow sh R o n b false = (i : ℕ) → i < n → IsAt sh R o i b → ⊥

abbrev pub IsThere : Shape → List Record → ℕ → ℕ → ℕ → Bool → Type 0
IsThere sh R o i b true = IsAt sh R o i b
IsThere sh R o i b false = IsAt sh R o i b → ⊥

-- a formatted block that takes a row of this length
abbrev pub is_taker : Shape → List Record → ℕ → ℕ → ℕ → Bool
is_taker sh R o len b = is_formatted sh R b && takes_row R (pctfree_of R o) b len Shrink

-- the block at a position, where it is one
pub record TakerAt (sh : Shape) (R : List Record) (o position len : ℕ) (found : Option ℕ) : Type 0 where
  pub block : ℕ
  pub here : IsAt sh R o position block
  pub told : found ≡ cond (is_taker sh R o len block) (Some block) None
