-- The next movement of a table's marks. Oracle Database Concepts, "Segment Space and the High Water Mark": blocks between the
-- marks are formatted before the high one moves, and a segment gets an extent when all of its blocks are used. When the
-- marks move, and by how much, is this engine's own.
use Rattle.std.specs.Prelude.{◌≡◌, ◌⊎◌, ℕ, zero, suc, ◌<◌, Bool, true, false, cond, ltb, List, length, Option, Some, None}
use Rattle.seg_words.specs.Types.{Shape, is_shape, MOST_EXTENTS}
use Rattle.redo_model.specs.Records.{Record}
use Rattle.redo_model.specs.Model.{extents_of, data_blocks, high_mark, under_high, first_unformatted, is_free_extent, IsLeastFree, IsTable, AreAllowed}
use Rattle.mark_laws.specs.declared.step.MarkStep.{MarkStep}
use Rattle.mark_laws.specs.declared.step.MarkStep.TheVariants as step

-- the least of the n numbers from x on with this property
abbrev pub least_from : (ℕ → Bool) → ℕ → ℕ → Option ℕ
least_from p x zero = None
least_from p x (suc n) = cond (p x) (Some x) (least_from p (suc x) n)

-- the least free extent: extents have numbers below the count of the store's blocks
abbrev pub least_free : Shape → List Record → Option ℕ
least_free sh R = least_from (is_free_extent sh R) 0 sh.blocks

abbrev pub extend_if : Option ℕ → Option MarkStep
extend_if None = None
extend_if (Some x) = Some (step.Extend x)

-- what follows where no block under the high mark is unformatted
abbrev pub next_growth : Shape → List Record → ℕ → Option MarkStep
next_growth sh R o = cond (ltb (high_mark R o) (length (data_blocks sh R o))) (Some step.Advance) (cond (ltb (length (extents_of R o)) MOST_EXTENTS) (extend_if (least_free sh R)) None)

abbrev pub format_else : Option ℕ → Option MarkStep → Option MarkStep
format_else (Some b) m = Some (step.Format b)
format_else None m = m

-- the first unformatted block under the high mark is formatted; else the high mark goes up, where data blocks are left; else
-- the table gets the least free extent, where it has fewer than 900 and one is free
abbrev pub next_mark : Shape → List Record → ℕ → Option MarkStep
next_mark sh R o = format_else (first_unformatted sh R (under_high sh R o)) (next_growth sh R o)

-- each data block is under the high mark and formatted
pub record IsFull (sh : Shape) (R : List Record) (o : ℕ) : Type 0 where
  pub formatted : first_unformatted sh R (under_high sh R o) ≡ None
  pub high : high_mark R o ≡ length (data_blocks sh R o)

pub record MayAdvance (sh : Shape) (R : List Record) (o : ℕ) : Type 0 where
  pub formatted : first_unformatted sh R (under_high sh R o) ≡ None
  pub room : high_mark R o < length (data_blocks sh R o)

pub record MayExtend (sh : Shape) (R : List Record) (o x : ℕ) : Type 0 where
  pub full : IsFull sh R o
  pub few : length (extents_of R o) < MOST_EXTENTS
  pub extent : IsLeastFree sh R x

-- when a movement is the next one, each apart
abbrev pub IsNextMark : Shape → List Record → ℕ → MarkStep → Type 0
IsNextMark sh R o (step.Format b) = first_unformatted sh R (under_high sh R o) ≡ Some b
IsNextMark sh R o step.Advance = MayAdvance sh R o
IsNextMark sh R o (step.Extend x) = MayExtend sh R o x

-- the table has 900 extents, or none is free
abbrev pub HasNoExtent : Shape → List Record → ℕ → Type 0
HasNoExtent sh R o = (length (extents_of R o) ≡ MOST_EXTENTS) ⊎ ((x : ℕ) → is_free_extent sh R x ≡ false)

pub record NoMark (sh : Shape) (R : List Record) (o : ℕ) : Type 0 where
  pub full : IsFull sh R o
  pub extent : HasNoExtent sh R o

pub record MarksMean (sh : Shape) (R : List Record) (o : ℕ) : Type 0 where
  pub is : (m : MarkStep) → next_mark sh R o ≡ Some m → IsNextMark sh R o m
  pub tells : (m : MarkStep) → IsNextMark sh R o m → next_mark sh R o ≡ Some m
  pub none : next_mark sh R o ≡ None → NoMark sh R o
  pub refused : NoMark sh R o → next_mark sh R o ≡ None

abbrev pub NextMarksMean : Type 0
NextMarksMean = (sh : Shape) (R : List Record) (o : ℕ) → is_shape sh ≡ true → AreAllowed sh R → IsTable R o → MarksMean sh R o
