use Rattle.std.proofs.Common.{subst}
use Rattle.redo_model.specs.Model.{Content}
use Rattle.change_laws.specs.Types.{fill}
use Rattle.row_change.specs.Drafting.{FillIs}
use Rattle.row_change.proofs.filling.emptied.Goals as goal

pub returns-in-Ok-clause-says : goal.returns-in-Ok-clause-says
returns-in-Ok-clause-says g c = λ R o who own t a x. subst (λ (y : Content). FillIs R own c.in-Ok.fill (fill c.args.at.now y)) c.nothing-content.ensures.content (c.in-Ok.ensures.says R o who own t a x)

pub returns-in-Err-clause-sound : goal.returns-in-Err-clause-sound
returns-in-Err-clause-sound g c = λ R o who own t a x n. c.in-Err.ensures.sound R o who own t a x n
