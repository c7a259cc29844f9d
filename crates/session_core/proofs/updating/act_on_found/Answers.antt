use Rattle.std.proofs.Common.{Some, ◌∙◌, ap}
use Rattle.mark_laws.specs.declared.step.Found.{Found}
use Rattle.session_core.proofs.updating.act_on_found.Goals as goal

pub returns-in-Block-clause-noted : goal.returns-in-Block-clause-noted
returns-in-Block-clause-noted g c = λ x name target len hint u e f. c.migrate_row.ensures.noted x name target len hint u e (f ∙ ap (λ (z : Found). Some z) c.in-Block.is)

pub returns-in-Mark-clause-acted : goal.returns-in-Mark-clause-acted
returns-in-Mark-clause-acted g c = λ x name target len hint u e f. c.move_marks.ensures.acted x name target c.args.bytes.now c.args.who c.args.place.now len hint u e (f ∙ ap (λ (z : Found). Some z) c.in-Mark.is)
