use Rattle.std.proofs.Common.{refl, ap, ◌∙◌}
use Rattle.redo_model.specs.Model.{plain_row}
use Rattle.shrink_move.specs.declared.standing.Standing.{Standing}
use Rattle.shrink_move.proofs.draft.moved_into.Goals as goal

pub returns-in-Ok : goal.returns-in-Ok
returns-in-Ok c = λ R a i b k first second. record { row = refl; fills = c.body_fills.ensures R a i b k c.args.row first second (c.in-Ok.ensures.content ∙ ap (plain_row c.args.row) (c.as_slice.ensures ∙ ap (λ (s : Standing). s.old.bytes) second)) }
