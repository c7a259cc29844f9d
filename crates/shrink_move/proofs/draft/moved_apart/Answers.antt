use Rattle.std.proofs.Common.{refl, ap, ◌∙◌}
use Rattle.redo_model.specs.Model.{plain_row}
use Rattle.shrink_move.specs.declared.standing.Standing.{Standing}
use Rattle.shrink_move.proofs.draft.moved_apart.Goals as goal

pub returns-in-Ok : goal.returns-in-Ok
returns-in-Ok c = λ R a i b k d j first second e. record { row = refl; fills = c.apart_fills.ensures R a i b k d j c.args.row first second e (c.in-Ok.ensures.content ∙ ap (plain_row c.args.row) (c.as_slice.ensures ∙ ap (λ (s : Standing). s.old.bytes) second)) }
