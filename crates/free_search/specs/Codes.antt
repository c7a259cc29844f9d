-- What the code of a block says of it, and what only the block itself says.
use Rattle.std.specs.Prelude.{◌≡◌, ℕ, ◌+◌, ◌<◌, ◌≤◌, Bool, false, not, ◌&&◌, leb, List}
use Rattle.seg_words.specs.Types.{Shape, class_code, Full, Fs1}
use Rattle.redo_model.specs.Records.{Record}
use Rattle.redo_model.specs.Model.{best_in_l1, pctfree_of, takes_row}
use Rattle.mark_laws.specs.Searches.{Sought, is_left_out}
use Rattle.free_search.specs.declared.look.Wanted.{Wanted}
use Rattle.free_search.specs.declared.look.Wanted.TheVariants as wanted

-- a block with this code may be what is wanted
abbrev pub has_code : Wanted → ℕ → Bool
has_code wanted.Usable code = leb (class_code Full) code
has_code wanted.Good code = leb (class_code Fs1) code

-- a formatted block isn't left out, and takes the row
abbrev pub room_for : List Record → Sought → ℕ → Bool
room_for R q b = not (is_left_out q.but b) && takes_row R (pctfree_of R q.obj) b q.len q.taker

-- none of table o's extents from one index on and below another has a best that is good
abbrev pub LacksGood : Shape → List Record → ℕ → ℕ → ℕ → Type 0
LacksGood sh R o from to = (index : ℕ) → from ≤ index → index < to → has_code wanted.Good (best_in_l1 sh R o index) ≡ false

-- the same by numbers that count from the extent with index start on
abbrev pub LacksGoodNth : Shape → List Record → ℕ → ℕ → ℕ → ℕ → Type 0
LacksGoodNth sh R o start from to = (nth : ℕ) → from ≤ nth → nth < to → has_code wanted.Good (best_in_l1 sh R o (start + nth)) ≡ false
