use Rattle.std.specs.Prelude.{List, ℕ, suc}
use Rattle.std.proofs.Common.{sym, subst, add-one}
use Rattle.history_model.specs.declared.history.HistoryItem.{HistoryItem}
use Rattle.session_step.specs.Telling.{Ends, ends_none, ends_one}
use Rattle.session_step.proofs.telling.finish.Goals as goal

pub returns-in_err-push-in-Over-clause-ends : goal.returns-in_err-push-in-Over-clause-ends
returns-in_err-push-in-Over-clause-ends c = subst (λ (Z : List HistoryItem). Ends c.args.session.now.told c.args.history.now c.args.session.now.told Z) (sym c.in_err-push-in-Over.ensures.err) ends_none

pub returns-in-On-clause-ends : goal.returns-in-On-clause-ends
returns-in-On-clause-ends c = ends_none

pub returns-in_ok-push-in-Over-clause-ends : goal.returns-in_ok-push-in-Over-clause-ends
returns-in_ok-push-in-Over-clause-ends c =
    subst (λ (n : ℕ). Ends c.args.session.now.told c.args.history.now n c.push.new.self) (sym (add-one c.args.session.now.told))
    (subst (λ (Z : List HistoryItem). Ends c.args.session.now.told c.args.history.now (suc c.args.session.now.told) Z) (sym c.in_ok-push-in-Over.ensures.ok) (ends_one _ _))
