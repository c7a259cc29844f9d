-- Which row blocks the records of an event change, and that an event notes just these.
use Rattle.std.specs.Prelude.{◌≡◌, ℕ, Bool, false, eqb, ◌||◌, List, [], ◌∷◌, ◌++◌}
use Rattle.disk_model.specs.Crash.{Meaning}
use Rattle.redo_model.specs.Records.{Record}
use Rattle.redo_model.specs.Effects.{Adds, TakesBack}
use Rattle.redo_model.specs.Model.{Effect, effect_of}
use Rattle.end_laws.specs.Types.{blocks_in}
use Rattle.txn_end.specs.Backing.{blocks_of_parts}
use Rattle.store_core.specs.Store.{Held, IsTrue}
use Rattle.session_core.specs.declared.changed.Changed.{Changed}
use Rattle.session_core.specs.Leaving.{is_noted}

abbrev pub is_among : List ℕ → ℕ → Bool
is_among [] b = false
is_among (d ∷ ds) b = eqb d b || is_among ds b

-- the row blocks in which a record changes slots: those of the parts of a row record, of a Move or of a Back. A FormatBlock, a Class
-- and a Clean change none.
abbrev pub row_blocks : Effect → List ℕ
row_blocks (Adds st) = blocks_in st.parts
row_blocks (TakesBack k) = blocks_of_parts k.parts
row_blocks e = []

-- one of these records changes the block
abbrev pub changes_block : List Record → ℕ → Bool
changes_block [] b = false
changes_block (r ∷ rs) b = is_among (row_blocks (effect_of r)) b || changes_block rs b

-- the records of S after those of R change just the noted blocks
pub record ChangesJust (R S : List Record) (c : Changed) : Type 0 where
  pub newer : List Record
  pub is : S ≡ newer ++ R
  pub just : (b : ℕ) → is_noted c b ≡ changes_block newer b

-- a true store that had the records R has some after them, which change just the noted blocks
pub record HasNoted {D : Type 0} (meaning : Meaning D) (R : List Record) (s : Held D) (c : Changed) : Type 0 where
  pub records : List Record
  pub stands : IsTrue meaning records s
  pub changes : ChangesJust R records c
