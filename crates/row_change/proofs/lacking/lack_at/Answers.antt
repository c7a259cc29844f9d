use Rattle.row_change.proofs.Acted.{acts_as}
use Rattle.row_change.proofs.Given.{rows_there}
use Rattle.row_change.proofs.Listed.{lack_given, lack_is}
use Rattle.row_change.proofs.lacking.lack_at.Goals as goal

pub returns-in-Ok-clause-says : goal.returns-in-Ok-clause-says
returns-in-Ok-clause-says g c = λ R o who own t a x. lack_is c.args.store.now.shape R c.args.opening.now.table own o c.args.dba c.args.opening.now.actor.txn c.in-Ok.lack t.list.within t.lawful a.table x (acts_as R who own c.args.opening.now.actor a.actor) (c.in-Ok.ensures.says R t)

pub returns-in-Err-clause-sound : goal.returns-in-Err-clause-sound
returns-in-Err-clause-sound g c = λ R o who own t a x n. c.in-Err.ensures.sound R _ t n (rows_there c.args.store.now.shape R o c.args.dba t.list.within t.lawful x) (lack_given c.args.store.now.shape R c.args.opening.now.table own o c.args.dba c.args.opening.now.actor.txn t.list.within t.lawful a.table x (acts_as R who own c.args.opening.now.actor a.actor))
