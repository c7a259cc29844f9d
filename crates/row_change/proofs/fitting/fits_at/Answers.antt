use Rattle.row_change.proofs.Fitted.{fitting_given, fitting_is}
use Rattle.row_change.proofs.Given.{rows_there}
use Rattle.row_change.proofs.fitting.fits_at.Goals as goal

pub returns-in-Ok-clause-says : goal.returns-in-Ok-clause-says
returns-in-Ok-clause-says g c = λ R o who t a x. fitting_is c.args.store.now.shape R c.args.opening.now.table c.args.own.now o c.args.at.now c.args.len c.in-Ok.fits t.list.within t.lawful a.table x (c.in-Ok.ensures.says R t)

pub returns-in-Err-clause-sound : goal.returns-in-Err-clause-sound
returns-in-Err-clause-sound g c = λ R o who t a x l n. c.in-Err.ensures.sound R _ t n (rows_there c.args.store.now.shape R o c.args.at.now.dba t.list.within t.lawful x) (fitting_given c.args.store.now.shape R c.args.opening.now.table c.args.own.now o c.args.at.now c.args.len t.list.within t.lawful a.table x l)
