-- The scripts that can be run.
use Rattle.std.specs.Prelude.{◌≡◌, ℕ, ◌≤◌, List, length, slice_get, Some}
use Rattle.seg_words.specs.Types.{MOST_SESSIONS}
use Rattle.script_text.specs.declared.statement.Statement.{Statement}
use Rattle.script_text.specs.Spelled.{IsSpelled}
use Rattle.session_step.specs.Turning.{IsBuilt}

-- each statement is spelled, and one of which the events are built
pub record AreRunnable (script : List Statement) : Type 0 where
  pub spelled : (i : ℕ) (st : Statement) → slice_get script i ≡ Some st → IsSpelled st
  pub built : (i : ℕ) (st : Statement) → slice_get script i ≡ Some st → IsBuilt st

-- of each session
pub record AreScripts (scripts : List (List Statement)) : Type 0 where
  pub few : length scripts ≤ MOST_SESSIONS
  pub each : (i : ℕ) (script : List Statement) → slice_get scripts i ≡ Some script → AreRunnable script
