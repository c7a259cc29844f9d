-- Why a search for a block is refused: for want of space, or since the table has as many extents as one may have. Which of
-- them is told is this engine's own.
use Rattle.std.specs.Prelude.{◌≡◌, ℕ, ◌<◌, true, false, cond, ltb, List, length, Option, None}
use Rattle.seg_words.specs.Types.{Shape, MOST_EXTENTS, is_shape}
use Rattle.redo_model.specs.Records.{Record}
use Rattle.redo_model.specs.Model.{extents_of, is_free_extent, IsTable, IsLawful}
use Rattle.mark_laws.specs.declared.step.Refusal.{Refusal}
use Rattle.mark_laws.specs.declared.step.Refusal.TheVariants as refusal
use Rattle.mark_laws.specs.Movements.{IsFull}
use Rattle.mark_laws.specs.Searches.{Sought, is_usable, find_of, HasNone}

-- by the count of the table's extents alone, where a search is refused
abbrev pub refusal_of : List Record → Sought → Refusal
refusal_of R q = cond (ltb (length (extents_of R q.obj)) MOST_EXTENTS) (refusal.NoSpace q.len) (refusal.MaxExtents MOST_EXTENTS)

-- No block takes the row, the marks can't move, and the table could have more extents, but none is free: this much is needed.
pub record LacksSpace (sh : Shape) (R : List Record) (q : Sought) (need : ℕ) : Type 0 where
  pub none_takes : HasNone sh R q.obj (is_usable sh R q)
  pub full : IsFull sh R q.obj
  pub few : length (extents_of R q.obj) < MOST_EXTENTS
  pub none_free : (x : ℕ) → is_free_extent sh R x ≡ false
  pub is_length : need ≡ q.len

-- No block takes the row, the marks can't move, and the table has so many extents, the most.
pub record HasMostExtents (sh : Shape) (R : List Record) (q : Sought) (count : ℕ) : Type 0 where
  pub none_takes : HasNone sh R q.obj (is_usable sh R q)
  pub full : IsFull sh R q.obj
  pub most : length (extents_of R q.obj) ≡ MOST_EXTENTS
  pub is_most : count ≡ MOST_EXTENTS

abbrev pub IsRefusal : Shape → List Record → Sought → Refusal → Type 0
IsRefusal sh R q (refusal.NoSpace need) = LacksSpace sh R q need
IsRefusal sh R q (refusal.MaxExtents count) = HasMostExtents sh R q count

pub record RefusalMeans (sh : Shape) (R : List Record) (q : Sought) (hint : Option ℕ) : Type 0 where
  pub is : find_of sh R q hint ≡ None → IsRefusal sh R q (refusal_of R q)
  pub refused : (f : Refusal) → IsRefusal sh R q f → find_of sh R q hint ≡ None
  pub only : (f : Refusal) → IsRefusal sh R q f → f ≡ refusal_of R q

abbrev pub RefusalsMean : Type 0
RefusalsMean = (sh : Shape) (R : List Record) (q : Sought) (hint : Option ℕ) → is_shape sh ≡ true → IsLawful sh R → IsTable R q.obj → RefusalMeans sh R q hint
