use Rattle.std.proofs.Common.{ℕ, List, ap, ◌∙◌, bytes_eq}
use Rattle.std.specs.Map.{lookup}
use Rattle.session_step.specs.Bindings.{row_of}
use Rattle.session_step.proofs.LabelRows.{row_found}
use Rattle.session_step.proofs.labels.Labels.row.Goals as goal

pub returns-in-Some : goal.returns-in-Some
returns-in-Some c =
    let es = c.self.inside.rows.entries in
    c.in-Some.ensures.value ∙ (ap (λ (z : List ℕ). lookup (λ k. bytes_eq z k.items) es) c.as_slice.ensures.same ∙ (row_found es c.args.label.now ∙ ap (λ (z : List (List ℕ × ℕ)). row_of z c.args.label.now) c.self.view_is))

pub returns-in-None : goal.returns-in-None
returns-in-None c =
    let es = c.self.inside.rows.entries in
    c.in-None.ensures.value ∙ (ap (λ (z : List ℕ). lookup (λ k. bytes_eq z k.items) es) c.as_slice.ensures.same ∙ (row_found es c.args.label.now ∙ ap (λ (z : List (List ℕ × ℕ)). row_of z c.args.label.now) c.self.view_is))
