use Rattle.std.proofs.Common.{ap, sym, ◌∙◌, subst}
use Rattle.std.specs.Prelude.{◌≡◌, Some}
use Rattle.mark_laws.specs.Searches.{find_of}
use Rattle.mark_laws.specs.declared.step.Found.{Found}
use Rattle.session_core.proofs.Blocks.{noted_as}
use Rattle.session_core.proofs.inserting.act_on_found.Goals as goal

pub returns-in-Block-clause-noted : goal.returns-in-Block-clause-noted
returns-in-Block-clause-noted g c = λ x name label hint at by size w f e. c.insert_row.ensures.noted x name label hint at by size w (f ∙ ap (λ (z : Found). Some z) c.in-Block.is) e

pub returns-in-Mark-clause-noted : goal.returns-in-Mark-clause-noted
returns-in-Mark-clause-noted g c = λ x name label hint at by size w f e.
    noted_as g.D.Disk.meaning x.ended c.move_marks.new.store c.args.changed.now _ e (c.move_marks.ensures.noted x name label c.args.bytes.now hint at w (f ∙ ap (λ (z : Found). Some z) c.in-Mark.is))
