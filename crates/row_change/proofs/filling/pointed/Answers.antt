use Rattle.std.proofs.Common.{◌∙◌, ap, subst}
use Rattle.seg_words.specs.Types.{Rowid}
use Rattle.redo_model.specs.Model.{Content, head_to}
use Rattle.change_laws.specs.Types.{fill}
use Rattle.row_change.specs.Drafting.{FillIs}
use Rattle.row_change.proofs.Moved.{slot_of}
use Rattle.row_change.proofs.filling.pointed.Goals as goal

pub returns-in-Ok-clause-says : goal.returns-in-Ok-clause-says
returns-in-Ok-clause-says g c = λ R o who own f t a x h. subst (λ (y : Content). FillIs R own c.in-Ok.fill (fill c.args.head.now y)) (c.head_to-content.ensures.content ∙ ap (λ (p : Rowid). head_to c.args.row p) (slot_of R own c.args.body.now f h)) (c.in-Ok.ensures.says R o who own t a x)

pub returns-in-Err-clause-sound : goal.returns-in-Err-clause-sound
returns-in-Err-clause-sound g c = λ R o who own t a x n. c.in-Err.ensures.sound R o who own t a x n
