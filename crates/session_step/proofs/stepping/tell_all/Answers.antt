use Rattle.session_step.specs.Telling.{ends_none}
use Rattle.session_step.proofs.Running.{always}
use Rattle.session_step.proofs.stepping.tell_all.Goals as goal

pub returns-in-Ok-clause-bound : goal.returns-in-Ok-clause-bound
returns-in-Ok-clause-bound g c = always c.tell_owing.result c.in-Ok.ensures.bound

pub returns-in-Err-clause-ends : goal.returns-in-Err-clause-ends
returns-in-Err-clause-ends g c = ends_none
