-- The counts of a table's blocks, as a usage tells them.
use Rattle.std.specs.Prelude.{ℕ, List, Option}
use Rattle.history_text.specs.declared.outcome.Outcome.TheVariants as outcome
use Rattle.history_text.specs.declared.outcome.Usage.{Usage}
use Rattle.history_model.specs.declared.history.Kept.TheVariants as kept
use Rattle.session_core.specs.declared.turned.Turned.TheVariants as turned
use Rattle.session_core.specs.declared.turned.Acted.{Acted}

-- a usage of the table of this name is over
abbrev pub told_over : List ℕ → Option ℕ → Usage → Acted
told_over name own u = record { turned = turned.Over (outcome.Usage name u) kept.Nothing; own = own }
