use Rattle.std.specs.Prelude.{List}
use Rattle.std.proofs.Common.{sym, subst}
use Rattle.history_model.specs.declared.history.HistoryItem.{HistoryItem}
use Rattle.session_step.specs.Telling.{Begins, begins_none, begins_one}
use Rattle.session_step.proofs.telling.begin.Goals as goal

pub returns-then-not-is_waiting-clause-begins : goal.returns-then-not-is_waiting-clause-begins
returns-then-not-is_waiting-clause-begins c = begins_none

pub returns-then-is_none-clause-begins : goal.returns-then-is_none-clause-begins
returns-then-is_none-clause-begins c = begins_none

pub returns-in_err-push-clause-begins : goal.returns-in_err-push-clause-begins
returns-in_err-push-clause-begins c = subst (λ (Z : List HistoryItem). Begins c.args.history.now Z) (sym c.in_err-push.ensures.err) begins_none

pub returns-clause-begins : goal.returns-clause-begins
returns-clause-begins c = subst (λ (Z : List HistoryItem). Begins c.args.history.now Z) (sym c.in_ok-push.ensures.ok) (begins_one (record { session = c.args.who; begins = c.args.records }))
