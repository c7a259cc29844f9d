use Rattle.std.proofs.Common.{◌∙◌, ap}
use Rattle.seg_words.specs.Types.{Slot}
use Rattle.shrink_move.specs.Asked.{standing_if}
use Rattle.shrink_move.proofs.standing.standing_at.Goals as goal

pub returns-in-Ok : goal.returns-in-Ok
returns-in-Ok c = c.standing_if.ensures ∙ ap (λ (i : Slot). standing_if c.args.dba c.args.slot i) c.in-Ok.ensures
