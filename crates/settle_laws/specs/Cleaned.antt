-- What a Clean settles: no slot of its block names a committed transaction that isn't forgotten any more, its list entries name
-- active transactions alone, and what the block counts is as before, and so its class.
use Rattle.std.specs.Prelude.{◌≡◌, ℕ, ◌≤◌, true, false, List, ◌∷◌, Some}
use Rattle.seg_words.specs.Types.{Shape, By}
use Rattle.redo_model.specs.Records.{Record, Clean, CleanRecord}
use Rattle.redo_model.specs.Model.{is_active, commit_number, is_forgotten, used_of, class_of_block, image, entry, AreAllowed}

pub record CleanSettles (R : List Record) (c : CleanRecord) : Type 0 where
  pub slots : (k t d : ℕ) → (image (Clean c ∷ R) c.dba k).writer ≡ By t → commit_number R t ≡ Some d → is_forgotten R t ≡ false → ⊥
  pub entries : (i t : ℕ) → 1 ≤ t → (entry (Clean c ∷ R) c.dba i).txn ≡ t → is_active R t ≡ true
  pub used : (b : ℕ) → used_of (Clean c ∷ R) b ≡ used_of R b
  pub class : (pctfree b : ℕ) → class_of_block (Clean c ∷ R) pctfree b ≡ class_of_block R pctfree b

abbrev pub CleansSettle : Type 0
CleansSettle = (sh : Shape) (R : List Record) (c : CleanRecord) → AreAllowed sh (Clean c ∷ R) → CleanSettles R c
