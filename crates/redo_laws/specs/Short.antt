-- No number of a list is greater than its length: so a list shorter than 2 to the 64th has numbers of 64 bits alone.
use Rattle.std.specs.Prelude.{ℕ, ◌≤◌, List, length}
use Rattle.redo_model.specs.Records.{Record}
use Rattle.redo_model.specs.Model.{commit_count, row_count, txn_count, lowering_count, undo_sequence}

pub record ShortOf (R : List Record) : Type 0 where
  pub commits : commit_count R ≤ length R
  pub rows : row_count R ≤ length R
  pub txns : txn_count R ≤ length R
  pub lowerings : lowering_count R ≤ length R
  pub sequences : (u : ℕ) → undo_sequence R u ≤ length R

abbrev pub NumbersAreShort : Type 0
NumbersAreShort = (R : List Record) → ShortOf R
