-- The Class that keeps a given class of a row block, and where the levels of its bitmap stand.
use Rattle.std.specs.Prelude.{ℕ, Bool, cond, not, eqb, List, ◌∷◌, Option, Some, None}
use Rattle.seg_words.specs.Types.{Class as BlockClass, Shape, class_code}
use Rattle.redo_model.specs.Records.{Record, Class, ClassRecord}
use Rattle.redo_model.specs.Model.{extents_of, extent_at, block_in, index_of, l2_of, l3_of, kept_class}
use Rattle.usage_laws.specs.Types.{class_to}
use Rattle.space_usage.specs.declared.levels.Levels.{Levels}

-- the kept class is another one
abbrev pub is_other : List Record → ℕ → BlockClass → Bool
is_other R b class = not (eqb (class_code class) (class_code (kept_class R b)))

-- the Class that changes it
abbrev pub drafted : Shape → List Record → ℕ → ℕ → BlockClass → Option ClassRecord
drafted sh R o b class = cond (is_other R b class) (Some (class_to sh R o b class)) None

-- the list with this class kept of block b of table o
abbrev pub with_kept : Shape → List Record → ℕ → ℕ → BlockClass → List Record
with_kept sh R o b class = cond (is_other R b class) (Class (class_to sh R o b class) ∷ R) R

-- the index of the block's extent, and the blocks of the levels that cover it
abbrev pub levels_of : Shape → List Record → ℕ → ℕ → Levels
levels_of sh R o b = record {
  index = index_of sh (extents_of R o) b;
  l1 = block_in sh (extent_at (extents_of R o) (index_of sh (extents_of R o) b)) 0;
  l2 = l2_of sh (extents_of R o) (index_of sh (extents_of R o) b);
  l3 = l3_of sh (extents_of R o);
}
