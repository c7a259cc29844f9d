use Rattle.std.proofs.Common.{◌∙◌, subst}
use Rattle.std.specs.Prelude.{◌≡◌, ◌+◌, ◌++◌, ◌∷◌, ℕ}
use Rattle.script_text.specs.Spelled.{statement_lines}
use Rattle.script_gen.specs.Generated.{commit_after, insert_of}
use Rattle.script_gen.proofs.Texts.{drawn_more, inserts_more}
use Rattle.script_gen.proofs.generating.put_inserts.Goals as goal

pub loop-before-preserved : goal.loop-before-preserved
loop-before-preserved c =
    let l = c.loop-before in
    record {
      drew = c.next_number-x.ensures ∙ drawn_more c.args.number l.before l.x l.invariant.drew;
      put = inserts_more c.args.number c.args.rows l.before l.x c.args.out.now.items l.out.items c.put_row.new.out.items l.invariant.put l.invariant.drew
          (subst (λ (z : ℕ). c.put_row.new.out.items ≡ l.out.items ++ statement_lines (insert_of (l.before + 1) z ∷ commit_after c.args.rows (l.before + 1))) c.next_number-x.ensures c.in_ok-put_row.ensures);
    }
