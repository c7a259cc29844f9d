-- Extents and data blocks are apart: each extent of a table is a whole one of the store, stands in one table, and there
-- once, and so does each data block. Oracle Database Concepts, "Extents": a segment's extents are its own.
use Rattle.std.specs.Prelude.{◌≡◌, ℕ, ◌+◌, ◌≤◌, ◌<◌, true, List, [], ◌∷◌, length, map, Contains}
use Rattle.seg_words.specs.Types.{Shape, is_extent, MOST_EXTENTS, OWN_BLOCKS}
use Rattle.redo_model.specs.Records.{Record}
use Rattle.redo_model.specs.Model.{Extent, extents_of, has_extent, data_blocks, IsTable, AreAllowed}

abbrev pub AreDistinct : List ℕ → Type 0
AreDistinct [] = Unit {0}
AreDistinct (x ∷ xs) = (Contains xs x → ⊥) × AreDistinct xs

-- table o has extent x
abbrev pub HasExtent : List Record → ℕ → ℕ → Type 0
HasExtent R o x = has_extent (extents_of R o) x ≡ true

pub record ExtentsApart (sh : Shape) (R : List Record) : Type 0 where
  pub whole : (o x : ℕ) → IsTable R o → HasExtent R o x → is_extent sh x ≡ true
  pub one_table : (o p x : ℕ) → IsTable R o → IsTable R p → HasExtent R o x → HasExtent R p x → o ≡ p
  pub once : (o : ℕ) → IsTable R o → AreDistinct (map (λ (e : Extent). e.number) (extents_of R o))
  pub few : (o : ℕ) → IsTable R o → length (extents_of R o) ≤ MOST_EXTENTS

-- data blocks lie past the undo blocks, within the store
pub record BlocksApart (sh : Shape) (R : List Record) : Type 0 where
  pub from : (o b : ℕ) → IsTable R o → Contains (data_blocks sh R o) b → OWN_BLOCKS + sh.undo ≤ b
  pub to : (o b : ℕ) → IsTable R o → Contains (data_blocks sh R o) b → b < sh.blocks
  pub one_table : (o p b : ℕ) → IsTable R o → IsTable R p → Contains (data_blocks sh R o) b → Contains (data_blocks sh R p) b → o ≡ p
  pub once : (o : ℕ) → IsTable R o → AreDistinct (data_blocks sh R o)

pub record AreApart (sh : Shape) (R : List Record) : Type 0 where
  pub extents : ExtentsApart sh R
  pub blocks : BlocksApart sh R

abbrev pub ExtentsAreApart : Type 0
ExtentsAreApart = (sh : Shape) (R : List Record) → AreAllowed sh R → AreApart sh R
