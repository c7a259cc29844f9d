use Rattle.mark_move.proofs.Drafting.{advance_says}
use Rattle.mark_move.proofs.drafts.draft_advance.Goals as goal

pub returns : goal.returns
returns c = λ R o is. advance_says c.args.shape.now R o c.args.segment.now c.data_count-count.result c.next_high.result c.data_count-count.ensures.value c.next_high.ensures is
