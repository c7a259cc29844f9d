-- The search for a block that takes a row. Oracle Database Concepts, "Automatic Segment Space Management": a session takes a
-- block of which the bitmap says that it has room. In which order blocks are looked at, and when the marks move, is this
-- engine's own.
use Rattle.std.specs.Prelude.{◌≡◌, ◌⊎◌, ℕ, ◌<◌, Bool, true, false, not, ◌&&◌, ◌||◌, eqb, leb, List, [], ◌∷◌, find, Option, Some, None}
use Rattle.seg_words.specs.Types.{Shape, Taker, Fs1, class_code, is_shape}
use Rattle.redo_model.specs.Records.{Record}
use Rattle.redo_model.specs.Model.{in_extent, position, under_high, is_formatted, IsRowBlock, IsTable, pctfree_of, kept_class, takes_row, AreAllowed}
use Rattle.mark_laws.specs.declared.step.MarkStep.{MarkStep}
use Rattle.mark_laws.specs.declared.step.Found.{Found}
use Rattle.mark_laws.specs.declared.step.Found.TheVariants as found
use Rattle.mark_laws.specs.Movements.{next_mark, IsNextMark, NoMark}

-- what is looked for: a block of table obj, for a row of this length by this taker, but for these blocks
pub record Sought : Type 0 where
  pub obj : ℕ
  pub len : ℕ
  pub taker : Taker
  pub but : List (Option ℕ)

abbrev pub is_left_out : List (Option ℕ) → ℕ → Bool
is_left_out [] b = false
is_left_out (None ∷ ds) b = is_left_out ds b
is_left_out (Some d ∷ ds) b = eqb d b || is_left_out ds b

-- a formatted block that isn't left out and takes the row
abbrev pub is_usable : Shape → List Record → Sought → ℕ → Bool
is_usable sh R q b = is_formatted sh R b && not (is_left_out q.but b) && takes_row R (pctfree_of R q.obj) b q.len q.taker

-- and has a kept class from Fs1 to Fs4
abbrev pub is_good : Shape → List Record → Sought → ℕ → Bool
is_good sh R q b = leb (class_code Fs1) (class_code (kept_class R b)) && is_usable sh R q b

-- in extent x
abbrev pub is_good_in : Shape → List Record → Sought → ℕ → ℕ → Bool
is_good_in sh R q x b = in_extent sh x b && is_good sh R q b

abbrev pub first_hinted : Shape → List Record → Sought → Option ℕ → Option ℕ
first_hinted sh R q None = None
first_hinted sh R q (Some x) = find (is_good_in sh R q x) (under_high sh R q.obj)

abbrev pub block_or : Option ℕ → Option Found → Option Found
block_or (Some b) f = Some (found.Block b)
block_or None f = f

abbrev pub mark_or : Option MarkStep → Option Found → Option Found
mark_or (Some m) f = Some (found.Mark m)
mark_or None f = f

-- Under the high mark: the first good block of the hinted extent; else the first good one; else a movement of the marks; else
-- the first block that takes the row, whatever its kept class. None is a refusal.
abbrev pub find_of : Shape → List Record → Sought → Option ℕ → Option Found
find_of sh R q hint =
    block_or (first_hinted sh R q hint)
    (block_or (find (is_good sh R q) (under_high sh R q.obj))
    (mark_or (next_mark sh R q.obj)
    (block_or (find (is_usable sh R q) (under_high sh R q.obj)) None)))

-- b is the first block of the table, in order of position, with this property
pub record IsFirst (sh : Shape) (R : List Record) (o : ℕ) (p : ℕ → Bool) (b : ℕ) : Type 0 where
  pub here : IsRowBlock sh R o b
  pub passes : p b ≡ true
  pub first : (c : ℕ) → IsRowBlock sh R o c → position sh R o c < position sh R o b → p c ≡ false

-- no block of the table has it
abbrev pub HasNone : Shape → List Record → ℕ → (ℕ → Bool) → Type 0
HasNone sh R o p = (b : ℕ) → IsRowBlock sh R o b → p b ≡ false

-- no block of the hinted extent is good
abbrev pub NoneHinted : Shape → List Record → Sought → Option ℕ → Type 0
NoneHinted sh R q None = Unit {0}
NoneHinted sh R q (Some x) = HasNone sh R q.obj (is_good_in sh R q x)

abbrev pub IsHinted : Shape → List Record → Sought → Option ℕ → ℕ → Type 0
IsHinted sh R q None b = ⊥
IsHinted sh R q (Some x) b = IsFirst sh R q.obj (is_good_in sh R q x) b

pub record IsGood (sh : Shape) (R : List Record) (q : Sought) (hint : Option ℕ) (b : ℕ) : Type 0 where
  pub none_hinted : NoneHinted sh R q hint
  pub first : IsFirst sh R q.obj (is_good sh R q) b

pub record IsLast (sh : Shape) (R : List Record) (q : Sought) (b : ℕ) : Type 0 where
  pub none_good : HasNone sh R q.obj (is_good sh R q)
  pub no_mark : NoMark sh R q.obj
  pub first : IsFirst sh R q.obj (is_usable sh R q) b

-- a mark is moved where no block with a kept class from Fs1 to Fs4 takes the row
pub record IsMoved (sh : Shape) (R : List Record) (q : Sought) (m : MarkStep) : Type 0 where
  pub none_good : HasNone sh R q.obj (is_good sh R q)
  pub next : IsNextMark sh R q.obj m

-- the exact cause of a refusal
pub record IsRefused (sh : Shape) (R : List Record) (q : Sought) : Type 0 where
  pub none_takes : HasNone sh R q.obj (is_usable sh R q)
  pub no_mark : NoMark sh R q.obj

abbrev pub SearchGives : Shape → List Record → Sought → Option ℕ → Option Found → Type 0
SearchGives sh R q hint (Some (found.Block b)) = IsHinted sh R q hint b ⊎ IsGood sh R q hint b ⊎ IsLast sh R q b
SearchGives sh R q hint (Some (found.Mark m)) = IsMoved sh R q m
SearchGives sh R q hint None = IsRefused sh R q

pub record SearchMeans (sh : Shape) (R : List Record) (q : Sought) (hint : Option ℕ) : Type 0 where
  pub gives : SearchGives sh R q hint (find_of sh R q hint)
  pub refused : IsRefused sh R q → find_of sh R q hint ≡ None

abbrev pub SearchesMean : Type 0
SearchesMean = (sh : Shape) (R : List Record) (q : Sought) (hint : Option ℕ) → is_shape sh ≡ true → AreAllowed sh R → IsTable R q.obj → SearchMeans sh R q hint

-- a block that a search gives takes the row
pub record TakesIt (sh : Shape) (R : List Record) (q : Sought) (b : ℕ) : Type 0 where
  pub here : IsRowBlock sh R q.obj b
  pub takes : takes_row R (pctfree_of R q.obj) b q.len q.taker ≡ true
  pub another : is_left_out q.but b ≡ false

abbrev pub FoundTakes : Type 0
FoundTakes = (sh : Shape) (R : List Record) (q : Sought) (hint : Option ℕ) (b : ℕ) → is_shape sh ≡ true → AreAllowed sh R → IsTable R q.obj → find_of sh R q hint ≡ Some (found.Block b) → TakesIt sh R q b
