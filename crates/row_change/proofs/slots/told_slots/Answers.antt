use Rattle.row_change.proofs.Having.{page_same}
use Rattle.row_change.proofs.slots.told_slots.Goals as goal

pub returns : goal.returns
returns g c = λ R o i q t h at. c.slots_in.ensures c.args.store.now.shape R o i c.args.dba q h at (page_same c.args.store.now.shape R o c.args.dba q c.frame.result.now h (c.frame.ensures R t.list))
