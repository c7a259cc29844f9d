-- What can change a block's class: a record that changes the block, and a commit or an end of a transaction that its slots
-- name. So a block that was settled stays exact until one of those comes.
use Rattle.std.specs.Prelude.{◌≡◌, ℕ, Bool, false, List, ◌∷◌}
use Rattle.seg_words.specs.Types.{Shape, Block}
use Rattle.redo_model.specs.Records.{Record}
use Rattle.redo_model.specs.Model.{effect_of, TxnEffect, txn_effect, slots_name, block_of, used_of, free_of, class_of_block, AreAllowed}
use Rattle.redo_model.specs.Effects.{Commits, Ends}
use Rattle.redo_laws.specs.Added.{is_change}

-- it commits or ends a transaction that a slot of the block names
abbrev pub ends_named : TxnEffect → Block → Bool
ends_named (Commits c) x = slots_name x.slots c.txn
ends_named (Ends e) x = slots_name x.slots e.txn
ends_named _ x = false

pub record ClassStays (R : List Record) (r : Record) (b : ℕ) : Type 0 where
  pub used : used_of (r ∷ R) b ≡ used_of R b
  pub free : free_of (r ∷ R) b ≡ free_of R b
  pub class : (pctfree : ℕ) → class_of_block (r ∷ R) pctfree b ≡ class_of_block R pctfree b

abbrev pub ClassesStay : Type 0
ClassesStay = (sh : Shape) (R : List Record) (r : Record) (b : ℕ) → AreAllowed sh (r ∷ R) → is_change (effect_of r) b ≡ false → ends_named (txn_effect r) (block_of R b) ≡ false → ClassStays R r b
