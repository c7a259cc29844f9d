-- What the page of a block is after some records: the fold of those that touch it.
use Rattle.std.specs.Prelude.{ℕ, suc, cond, List, [], ◌∷◌, ◌++◌, length}
use Rattle.seg_base.specs.declared.shape.Shape.{Shape}
use Rattle.redo_record.specs.declared.record.Record.{Record}
use Rattle.page_set.specs.declared.page.Page.{Page}
use Rattle.page_set.specs.declared.page.Page.TheVariants.{Zero}
use Rattle.page_set.specs.Changes.{changed_page}
use Rattle.page_set.specs.Among.{is_among}
pub use Rattle.page_model.specs.Types.{touched_by_row, first_of, those, touched}

-- a block behind the others, where it isn't among them
abbrev pub with_block : List ℕ → ℕ → List ℕ
with_block ds d = cond (is_among ds d) ds (ds ++ d ∷ [])

abbrev pub with_all : List ℕ → List ℕ → List ℕ
with_all ds [] = ds
with_all ds (x ∷ xs) = with_all (with_block ds x) xs

-- each of the touched blocks once
abbrev pub touched_once : Shape → Record → List ℕ
touched_once sh r = with_all [] (touched sh r)

-- the page of block d after the records R
abbrev pub page_of : Shape → List Record → ℕ → Page
page_of sh [] d = Zero d
page_of sh (r ∷ R) d = cond (is_among (touched sh r) d) (changed_page r (suc (length R)) (page_of sh R d)) (page_of sh R d)
