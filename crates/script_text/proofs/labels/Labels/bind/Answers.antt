use Rattle.std.proofs.Common.{◌≡◌, List, ℕ, not, map, ap, ◌∙◌, bytes_eq}
use Rattle.seg_words.specs.Types.{list_any}
use Rattle.script_text.proofs.LabelSets.{any_map, bound_new}
use Rattle.script_text.proofs.labels.Labels.bind.Goals as goal

pub returns-clause-new : goal.returns-clause-new
returns-clause-new c =
    let keys = c.self.inside.set.keys in
    let key = c.in_ok-key.key in
    let bound : list_any (λ x. bytes_eq key.items x.items) keys ≡ list_any (bytes_eq c.args.label.now) c.args.self.now =
    any_map key.items keys ∙ ap (λ q. list_any (bytes_eq q) (map (λ x. x.items) keys)) c.in_ok-key.ensures.items ∙ ap (list_any (bytes_eq c.args.label.now)) c.self.view_is in
    c.in_ok-new.ensures.added ∙ ap not bound

pub returns-clause-bound : goal.returns-clause-bound
returns-clause-bound c =
    bound_new c.in_ok-new.new c.self.inside.set.keys c.insert_full.new.self.keys c.in_ok-key.key c.args.label.now c.args.self.now c.in_ok-new.ensures.added c.in_ok-new.ensures.keys c.in_ok-key.ensures.items c.self.view_is
