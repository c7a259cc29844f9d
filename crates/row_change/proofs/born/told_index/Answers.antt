use Rattle.row_change.proofs.Belonging.{not_below, stands_in}
use Rattle.row_change.proofs.Having.{header_told}
use Rattle.row_change.proofs.born.told_index.Goals as goal

pub returns-in-Err : goal.returns-in-Err
returns-in-Err g c = λ R o t h. not_below _ _ (λ l. c.in-Err.ensures.right R o (header_told c.args.store.now.shape R o c.args.search.now c.frame.result.now h (c.frame.ensures R t.list)) l)

pub returns-in-Ok : goal.returns-in-Ok
returns-in-Ok g c = λ R o t h. stands_in c.args.search.now.shape R o c.args.dba c.in-Ok.index c.args.search.now.segment.extents c.index_below.result (c.in-Ok.ensures.says R o (header_told c.args.store.now.shape R o c.args.search.now c.frame.result.now h (c.frame.ensures R t.list))) h.segment_is.extents c.index_below.ensures.same c.index_below.ensures.below c.index_below.ensures.past
