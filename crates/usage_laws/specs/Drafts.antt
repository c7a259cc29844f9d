-- The records that settle a row block, as functions of the list before them: a Clean where a slot names a committed transaction
-- that isn't forgotten, then a Class where the kept class isn't the block's.
use Rattle.std.specs.Prelude.{◌≡◌, ℕ, Bool, false, cond, not, eqb, List, ◌∷◌, Some}
use Rattle.seg_words.specs.Types.{Class as BlockClass, Shape, By, class_code}
use Rattle.redo_model.specs.Records.{Record, Class, Clean, CleanRecord, ClassRecord}
use Rattle.redo_model.specs.Model.{commit_number, is_forgotten, ended_in, stated_number, pctfree_of, extents_of, index_of, group_start, l2_of, l3_of, block_of, class_of_block, kept_class, best_in_l1, best_in_l2, image}
use Rattle.usage_laws.specs.Named.{ended_named, names_known}

-- ---- the Clean

abbrev pub drafted_clean : List Record → ℕ → CleanRecord
drafted_clean R b = record { dba = b; ended = ended_named (ended_in R) (stated_number R) (block_of R b) }

abbrev pub calls_for_clean : List Record → ℕ → Bool
calls_for_clean R b = names_known (stated_number R) (block_of R b).slots

abbrev pub with_clean : List Record → ℕ → List Record
with_clean R b = cond (calls_for_clean R b) (Clean (drafted_clean R b) ∷ R) R

-- ---- the Class

-- the class that the block has by its free bytes and its table's PCTFREE
abbrev pub ruled_class : List Record → ℕ → ℕ → BlockClass
ruled_class R o b = class_of_block R (pctfree_of R o) b

-- the record of this class for a block of table o, with the bests that it states
abbrev pub class_with : Shape → List Record → ℕ → ℕ → BlockClass → ℕ → ℕ → ClassRecord
class_with sh R o b class best_of_l1 best_of_l2 = record {
  obj = o;
  dba = b;
  class = class;
  l2 = l2_of sh (extents_of R o) (index_of sh (extents_of R o) b);
  l3 = l3_of sh (extents_of R o);
  index = index_of sh (extents_of R o) b;
  best_of_l1 = best_of_l1;
  best_of_l2 = best_of_l2;
}

-- the list with the class changed: its bests don't depend on those that the record states
abbrev pub reclassed : Shape → List Record → ℕ → ℕ → BlockClass → List Record
reclassed sh R o b class = Class (class_with sh R o b class 0 0) ∷ R

-- the record of this class, which states the bests after it
abbrev pub class_to : Shape → List Record → ℕ → ℕ → BlockClass → ClassRecord
class_to sh R o b class =
    class_with sh R o b class (best_in_l1 sh (reclassed sh R o b class) o (index_of sh (extents_of R o) b)) (best_in_l2 sh (reclassed sh R o b class) o (group_start (index_of sh (extents_of R o) b)))

abbrev pub drafted_class : Shape → List Record → ℕ → ℕ → ClassRecord
drafted_class sh R o b = class_to sh R o b (ruled_class R o b)

abbrev pub calls_for_class : List Record → ℕ → ℕ → Bool
calls_for_class R o b = not (eqb (class_code (ruled_class R o b)) (class_code (kept_class R b)))

abbrev pub with_class : Shape → List Record → ℕ → ℕ → List Record
with_class sh R o b = cond (calls_for_class R o b) (Class (drafted_class sh R o b) ∷ R) R

-- ---- both

-- the list after the settling of block b of table o
abbrev pub settled : Shape → List Record → ℕ → ℕ → List Record
settled sh R o b = with_class sh (with_clean R b) o b

-- no slot names a committed transaction that isn't forgotten, and the kept class is the block's
pub record NeedsNothing (R : List Record) (o b : ℕ) : Type 0 where
  pub slots : (k t d : ℕ) → (image R b k).writer ≡ By t → commit_number R t ≡ Some d → is_forgotten R t ≡ false → ⊥
  pub class : kept_class R b ≡ ruled_class R o b
