-- Whose an extent is.
use Rattle.std.specs.Prelude.{◌≡◌, ℕ, Bool, true, false, List, Option, Some}
use Rattle.redo_model.specs.Records.{Record}
use Rattle.redo_model.specs.Model.{IsTable}
use Rattle.redo_laws.specs.Apart.{HasExtent}

-- table o is there and has extent x, or not
pub record Owns (R : List Record) (o x : ℕ) (answer : Bool) : Type 0 where
  pub found : answer ≡ true → IsTable R o × HasExtent R o x
  pub missing : answer ≡ false → IsTable R o → HasExtent R o x → ⊥

-- the answer is n
abbrev pub Tells : ℕ → Option ℕ → Type 0
Tells n answer = answer ≡ Some n
