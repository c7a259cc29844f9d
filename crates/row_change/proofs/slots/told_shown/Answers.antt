use Rattle.row_change.proofs.Having.{page_same}
use Rattle.row_change.proofs.slots.told_shown.Goals as goal

pub returns-clause-says : goal.returns-clause-says
returns-clause-says g c = λ R o i t h at. c.shown_in.ensures.says c.args.store.now.shape R o i h at (page_same c.args.store.now.shape R o c.args.at.now.dba c.args.search.now c.frame.result.now h (c.frame.ensures R t.list))

pub returns-clause-right : goal.returns-clause-right
returns-clause-right g c = λ R o i t h at. c.shown_in.ensures.right c.args.store.now.shape R o i h at (page_same c.args.store.now.shape R o c.args.at.now.dba c.args.search.now c.frame.result.now h (c.frame.ensures R t.list))
