-- A script as contracts see it.
use Rattle.std.specs.Prelude.{List}
use Rattle.script_text.specs.OwnTypes.{Statement, Turns}

-- the statements of its sessions, from session 1 on, and its schedule
pub record Script : Type 0 where
  pub sessions : List (List Statement)
  pub schedule : List Turns
