-- What holds where a commit is told.
use Rattle.std.specs.Prelude.{◌≤◌}
use Rattle.history_text.specs.declared.outcome.Outcome.{Outcome}
use Rattle.history_text.specs.declared.outcome.Outcome.TheVariants as outcome
use Rattle.store_core.specs.Store.{Held}
use Rattle.session_core.specs.declared.turned.Turned.{Turned}
use Rattle.session_core.specs.declared.turned.Turned.TheVariants as turned

-- no record of the store waits for the disk
abbrev pub IsFlushed : {D : Type 0} → Held D → Type 0
IsFlushed s = s.log.count ≤ s.log.stable

abbrev pub AcksOutcome : {D : Type 0} → Held D → Outcome → Type 0
AcksOutcome s (outcome.Committed number) = IsFlushed s
AcksOutcome s o = Unit {0}

abbrev pub AcksTurned : {D : Type 0} → Held D → Turned → Type 0
AcksTurned s (turned.On d) = Unit {0}
AcksTurned s (turned.Over o k) = AcksOutcome s o
