use Rattle.session_step.specs.Telling.{ends_none}
use Rattle.std.proofs.Common.{◌∙◌, ap}
use Rattle.session_core.specs.Dues.{noted_after}
use Rattle.session_step.proofs.Running.{always}
use Rattle.session_step.proofs.stepping.tell_owing.Goals as goal

pub returns-in-Ok-clause-owes : goal.returns-in-Ok-clause-owes
returns-in-Ok-clause-owes g c = always c.tell.result (c.in-Ok.ensures.ok ∙ ap (λ b. noted_after c.args.changed.now b c.args.dues.now) c.is_some.ensures)

pub returns-in-Err-clause-ends : goal.returns-in-Err-clause-ends
returns-in-Err-clause-ends g c = ends_none
