use Rattle.store_core.proofs.Lookups.{looked_ok}
use Rattle.row_change.proofs.Acted.{acts_as}
use Rattle.row_change.proofs.Given.{fill_is, replaced_found, rows_there}
use Rattle.row_change.proofs.opening.fill_at.Goals as goal

pub returns-in-Ok-clause-looked : goal.returns-in-Ok-clause-looked
returns-in-Ok-clause-looked g c = looked_ok g.D.Disk.meaning c.args.store.now c.ask.new.store c.in-Ok.replaced _ c.in-Ok.ensures.looked

pub returns-in-Ok-clause-says : goal.returns-in-Ok-clause-says
returns-in-Ok-clause-says g c = λ R o who own t a x. fill_is c.args.store.now.shape R c.args.opening.now.table own o c.args.dba c.args.slot c.length_of-len.result c.args.opening.now.actor.txn c.in-Ok.replaced c.args.content c.length_of-len.ensures t.list.within t.lawful a.table x (acts_as R who own c.args.opening.now.actor a.actor) (c.in-Ok.ensures.says R t)

pub returns-in-Err-clause-sound : goal.returns-in-Err-clause-sound
returns-in-Err-clause-sound g c = λ R o who own t a x n. c.in-Err.ensures.sound R _ t n (rows_there c.args.store.now.shape R o c.args.dba t.list.within t.lawful x) (replaced_found c.args.store.now.shape R c.args.opening.now.table own o c.args.dba c.args.slot c.length_of-len.result c.args.opening.now.actor.txn t.list.within t.lawful a.table x (acts_as R who own c.args.opening.now.actor a.actor))
