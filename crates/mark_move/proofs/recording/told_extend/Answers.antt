use Rattle.mark_move.proofs.Truth.{segment_says, segment_extents}
use Rattle.mark_move.proofs.recording.told_extend.Goals as goal

pub returns-clause-says : goal.returns-clause-says
returns-clause-says g c = λ R o t i e is. c.draft_extend.ensures.says R o is (segment_says c.args.shape.now c.args.store.now.shape R o c.args.segment.now.header c.frame.result.now t.list.within t.lawful i e is.header (c.frame.ensures R t.list)) (segment_extents c.args.shape.now c.args.store.now.shape R o t.lawful i e)

pub returns-clause-right : goal.returns-clause-right
returns-clause-right g c = λ R o t i e is w. c.draft_extend.ensures.right R o is (segment_says c.args.shape.now c.args.store.now.shape R o c.args.segment.now.header c.frame.result.now t.list.within t.lawful i e is.header (c.frame.ensures R t.list)) (segment_extents c.args.shape.now c.args.store.now.shape R o t.lawful i e) w c.requires.shape
