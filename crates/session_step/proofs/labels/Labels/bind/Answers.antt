use Rattle.std.proofs.Common.{ℕ, cond, List, Some, ap, ◌∙◌}
use Rattle.redo_model.specs.Model.{is_byte_list}
use Rattle.session_step.specs.Bindings.{row_of}
use Rattle.session_step.proofs.LabelRows.{seen, row_inserted}
use Rattle.session_step.proofs.labels.Labels.bind.Goals as goal

pub returns-clause-bound : goal.returns-clause-bound
returns-clause-bound c = λ l.
    let es = c.self.inside.rows.entries in
    let key = c.in_ok-key.key in
    let name = c.in_ok-key.ensures.items ∙ c.as_slice.ensures.same in
    ap (λ es. row_of (seen es) l) c.in_ok-insert.ensures.entries
    ∙ (row_inserted es key c.args.row l
    ∙ (ap (λ (z : List ℕ). cond (is_byte_list z l) (Some c.args.row) (row_of (seen es) l)) name
    ∙ ap (λ (z : List (List ℕ × ℕ)). cond (is_byte_list c.args.label.now l) (Some c.args.row) (row_of z l)) c.self.view_is))
