use Rattle.std.proofs.Common.{◌++◌, ◌∙◌, List, ℕ, ap, codes}
use Rattle.script_text.specs.Spelled.{statement_lines}
use Rattle.script_gen.specs.Generated.{deletes_to, ending, inserts_to, making}
use Rattle.script_gen.proofs.Texts.{whole_text}
use Rattle.script_gen.proofs.generating.text_of.Goals as goal

pub returns : goal.returns
returns c =
    let n = c.args.number in
    let m = c.args.rows in
    let begun = c.in_ok-put.ensures.ok ∙ ap (λ (out : List ℕ). out ++ codes "session 1\n") c.new-out.ensures.items in
    let made = c.in_ok-put_making.ensures ∙ ap (λ (out : List ℕ). out ++ statement_lines making) begun in
    let inserted = c.in_ok-put_inserts.ensures ∙ ap (λ (out : List ℕ). out ++ statement_lines (inserts_to n m m)) made in
    let deleted = c.in_ok-put_deletes.ensures ∙ ap (λ (out : List ℕ). out ++ statement_lines (deletes_to m)) inserted in
    c.in_ok-put_ending.ensures ∙ (ap (λ (out : List ℕ). out ++ statement_lines ending) deleted ∙ whole_text n m)
