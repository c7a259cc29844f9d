use Rattle.std.proofs.Common.{◌≡◌, ℕ, IfOk, ◌∙◌, sym, subst}
use Rattle.mark_move.proofs.Drafting.{l2_before, l2_new, block_is}
use Rattle.mark_move.proofs.drafts.l2_of_next.Goals as goal

pub returns-then-start-segment-clause-says : goal.returns-then-start-segment-clause-says
returns-then-start-segment-clause-says c = λ R o is s. subst (λ (z : ℕ). IfOk c.block_at.result (λ d. d ≡ z)) (l2_before c.args.shape.now R o c.args.extent c.group_start-start.result c.args.segment.now is c.group_start-start.ensures.value c.if-start-segment.true) (c.block_at.ensures.says R o s)

pub returns-in-Some-clause-says : goal.returns-in-Some-clause-says
returns-in-Some-clause-says c = λ R o is s.
    block_is c.args.shape.now c.args.extent 1 c.in-Some.dba (sym c.block_in.ensures ∙ c.in-Some.is)
    ∙ l2_new c.args.shape.now R o c.args.extent c.group_start-start.result c.args.segment.now is c.group_start-start.ensures.value c.if-start-segment.false c.group_start-start.ensures.most
