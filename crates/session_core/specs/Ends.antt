-- A transaction that is taken back.
use Rattle.std.specs.Prelude.{◌≡◌, ℕ, List, Option, Some, None}
use Rattle.redo_model.specs.Records.{Record}
use Rattle.redo_model.specs.Model.{standing, newest_of}
use Rattle.script_text.specs.declared.statement.Statement.{Statement}
use Rattle.script_text.specs.declared.statement.Statement.TheVariants as asked

-- no record of it is left
abbrev pub NoneLeft : List Record → ℕ → Type 0
NoneLeft R t = newest_of (standing R) t ≡ None

-- a rollback is asked for, or a session ends that has a transaction
abbrev pub MayRollBack : Option Statement → Option ℕ → Type 0
MayRollBack (Some asked.Rollback) own = Unit {0}
MayRollBack None (Some t) = Unit {0}
MayRollBack st own = ⊥
