use Rattle.mark_move.proofs.Drafting.{extend_says}
use Rattle.mark_move.proofs.drafts.draft_extend.Goals as goal

pub returns-clause-says : goal.returns-clause-says
returns-clause-says c = λ R o is s e. extend_says c.args.shape.now R o c.args.extent c.in_ok-l2.l2 c.in_ok-l3.l3 c.args.segment.now is e (c.in_ok-l2.ensures.says R o is s) (c.in_ok-l3.ensures.says R o s)
