use Rattle.std.proofs.Common.{◌≡◌, ◌++◌, ◌∙◌, List, ℕ, OnOk, ap, ap₂, subst, codes, decimal}
use Rattle.script_gen.proofs.Texts.{insert_text}
use Rattle.script_gen.proofs.generating.put_insert.Goals as goal

pub returns : goal.returns
returns c =
    let numbered = c.in_ok-put_number.ensures.ok ∙ ap₂ (λ (front : List ℕ) (n : ℕ). front ++ decimal n) c.in_ok-put.ensures.ok c.from.ensures in
    let spaced = c.in_ok-put-2.ensures.ok ∙ ap (λ (front : List ℕ). front ++ codes " ") numbered in
    let filled = c.in_ok-put-3.ensures.ok ∙ ap₂ (λ (front row : List ℕ). front ++ row) spaced (c.deref.ensures.value ∙ c.in_ok-text.ensures) in
    subst (λ (out : List ℕ). OnOk c.put-4.result (c.put-4.new.out.items ≡ out)) (ap (λ (front : List ℕ). front ++ codes "\n") filled ∙ insert_text c.args.out.now.items c.args.row c.args.x) c.put-4.ensures.ok
