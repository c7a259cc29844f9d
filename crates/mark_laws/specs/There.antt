-- What is there of a table in a lawful list, and what the codes of its blocks tell.
use Rattle.std.specs.Prelude.{◌≡◌, ℕ, suc, ◌<◌, ◌≤◌, true, false, List, length, drop, slice_get, Option, Some, None}
use Rattle.seg_words.specs.Types.{Shape, is_extent, class_code, MOST_EXTENTS}
use Rattle.redo_model.specs.Records.{Record}
use Rattle.redo_model.specs.Model.{extents_of, data_blocks, has_extent, is_formatted, under_high, low_mark, high_mark, first_unformatted, kept_class, code_of, IsTable, IsLawful, AreAllowed}

-- the table has an extent, at most 900, and each is a whole one of the store
pub record HasExtents (sh : Shape) (R : List Record) (o : ℕ) : Type 0 where
  pub one : 1 ≤ length (extents_of R o)
  pub few : length (extents_of R o) ≤ MOST_EXTENTS
  pub whole : (x : ℕ) → has_extent (extents_of R o) x ≡ true → is_extent sh x ≡ true

abbrev pub TablesHaveExtents : Type 0
TablesHaveExtents = (sh : Shape) (R : List Record) (o : ℕ) → IsLawful sh R → IsTable R o → HasExtents sh R o

-- the code of a block tells whether it is formatted
pub record CodeTells (sh : Shape) (R : List Record) (b : ℕ) : Type 0 where
  pub formatted : is_formatted sh R b ≡ true → (1 ≤ code_of sh R b) × (code_of sh R b ≡ class_code (kept_class R b))
  pub unformatted : is_formatted sh R b ≡ false → code_of sh R b ≡ 0

abbrev pub CodesTell : Type 0
CodesTell = (sh : Shape) (R : List Record) (b : ℕ) → AreAllowed sh R → CodeTells sh R b

-- the first unformatted block from a position on
abbrev pub unformatted_from : Shape → List Record → ℕ → ℕ → Option ℕ
unformatted_from sh R o n = first_unformatted sh R (drop n (under_high sh R o))

-- where the first unformatted block under the high mark is looked for: from the low mark on, position by position
pub record FoundFromLow (sh : Shape) (R : List Record) (o : ℕ) : Type 0 where
  pub low : unformatted_from sh R o (low_mark R o) ≡ first_unformatted sh R (under_high sh R o)
  pub next : (n b : ℕ) → slice_get (data_blocks sh R o) n ≡ Some b → n < high_mark R o → is_formatted sh R b ≡ true → unformatted_from sh R o n ≡ unformatted_from sh R o (suc n)
  pub here : (n b : ℕ) → slice_get (data_blocks sh R o) n ≡ Some b → n < high_mark R o → is_formatted sh R b ≡ false → unformatted_from sh R o n ≡ Some b
  pub end : (n : ℕ) → high_mark R o ≤ n → unformatted_from sh R o n ≡ None

abbrev pub UnformattedFromLow : Type 0
UnformattedFromLow = (sh : Shape) (R : List Record) (o : ℕ) → AreAllowed sh R → IsTable R o → FoundFromLow sh R o
