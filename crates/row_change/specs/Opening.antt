-- How a change begins.
use Rattle.std.specs.Prelude.{ℕ, List, Option}
use Rattle.redo_model.specs.Records.{Record}
use Rattle.version_laws.specs.Types.{HoldsTable}
use Rattle.row_change.specs.declared.opening.Opening.{Opening}
use Rattle.row_change.specs.Acting.{Acts}

pub record ActsBy (R : List Record) (who : ℕ) (own : Option ℕ) (x : Opening) : Type 0 where
  pub table : HoldsTable R x.table
  pub actor : Acts R who own x.actor
