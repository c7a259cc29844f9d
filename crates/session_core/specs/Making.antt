-- What the event of a table answers where none is made.
use Rattle.std.specs.Prelude.{ℕ, Option, Result, Ok, Err}
use Rattle.history_text.specs.declared.outcome.Outcome.TheVariants as outcome
use Rattle.history_text.specs.declared.refusal.Refusal.TheVariants as why
use Rattle.history_model.specs.declared.history.Kept.TheVariants as kept
use Rattle.store_core.specs.declared.fault.StoreFault.{StoreFault}
use Rattle.mark_move.specs.declared.fault.MarkFault.{MarkFault}
use Rattle.mark_move.specs.declared.fault.MarkFault.TheVariants as marks
use Rattle.session_core.specs.declared.turned.Turned.TheVariants as turned
use Rattle.session_core.specs.declared.turned.Acted.{Acted}

abbrev pub not_made : MarkFault → Option ℕ → Result Acted StoreFault
not_made (marks.NoSpace need) own = Ok (record { turned = turned.Over (outcome.Refused (why.NoSpace need)) kept.Nothing; own = own })
not_made (marks.Store fault) own = Err fault
