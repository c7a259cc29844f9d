-- The definitions on a small run: a table of two extents, the second without a formatted block.
use Rattle.std.specs.Prelude.{◌≡◌, true, false, List, ◌∷◌}
use Rattle.redo_model.specs.Records.{Record}
use Rattle.redo_model.specs.Worked.{small, extend_by, format_block, moved, lowered}
use Rattle.lower_laws.specs.Drafts.{kept_extents, releases, with_lower}

abbrev pub extended : List Record
extended = extend_by 1 ∷ format_block 46 ∷ format_block 45 ∷ moved

-- the second extent is released, and then there is nothing to release
pub record LoweringRight : Type 0 where
  pub kept : kept_extents small extended 1 ≡ 1
  pub some : releases small extended 1 ≡ true
  pub lower : with_lower small extended 1 ≡ lowered
  pub none : releases small lowered 1 ≡ false
  pub again : with_lower small lowered 1 ≡ lowered
