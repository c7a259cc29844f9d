-- What the event of a fix answers where no class is kept.
use Rattle.std.specs.Prelude.{ℕ, Option, Result, Ok, Err}
use Rattle.history_text.specs.declared.outcome.Outcome.TheVariants as outcome
use Rattle.history_text.specs.declared.refusal.Refusal.TheVariants as why
use Rattle.history_model.specs.declared.history.Kept.TheVariants as kept
use Rattle.store_core.specs.declared.fault.StoreFault.{StoreFault}
use Rattle.space_usage.specs.declared.fault.FixFault.{FixFault}
use Rattle.space_usage.specs.declared.fault.FixFault.TheVariants as faults
use Rattle.session_core.specs.declared.turned.Turned.TheVariants as turned
use Rattle.session_core.specs.declared.turned.Acted.{Acted}

abbrev pub not_fixed : FixFault → Option ℕ → Result Acted StoreFault
not_fixed (faults.NotDataBlock b) own = Ok (record { turned = turned.Over (outcome.Refused (why.NotDataBlock b)) kept.Nothing; own = own })
not_fixed (faults.BadValue v) own = Ok (record { turned = turned.Over (outcome.Refused (why.BadValue v)) kept.Nothing; own = own })
not_fixed (faults.Store fault) own = Err fault
