use Rattle.std.proofs.Common.{◌≡◌, ◌++◌, ◌∙◌, List, ℕ, OnOk, ap, ap₂, subst, codes, decimal}
use Rattle.script_gen.proofs.Texts.{delete_text}
use Rattle.script_gen.proofs.generating.put_delete.Goals as goal

pub returns : goal.returns
returns c =
    let numbered = c.in_ok-put_number.ensures.ok ∙ ap₂ (λ (front : List ℕ) (n : ℕ). front ++ decimal n) c.in_ok-put.ensures.ok c.from.ensures in
    subst (λ (out : List ℕ). OnOk c.put-2.result (c.put-2.new.out.items ≡ out)) (ap (λ (front : List ℕ). front ++ codes "\n") numbered ∙ delete_text c.args.out.now.items c.args.row) c.put-2.ensures.ok
