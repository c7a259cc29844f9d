use Rattle.std.proofs.Common.{◌∙◌, ap}
use Rattle.session_core.specs.declared.session.RepairWork.{RepairWork}
use Rattle.session_core.specs.RepairEvents.{repair_turned}
use Rattle.session_core.proofs.mending.settled_turned.Goals as goal

pub returns-in-Ok-clause-turned : goal.returns-in-Ok-clause-turned
returns-in-Ok-clause-turned c = c.repair_turned.ensures ∙ ap (λ (w : RepairWork). repair_turned w c.args.table c.args.own) c.in-Ok.ensures
