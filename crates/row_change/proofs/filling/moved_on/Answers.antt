use Rattle.std.proofs.Common.{sym, subst}
use Rattle.seg_words.specs.Types.{Shape}
use Rattle.redo_model.specs.Model.{IsRowBlock, head_to}
use Rattle.change_laws.specs.Types.{fill}
use Rattle.store_core.proofs.Lookups.{looked_on, looked_err}
use Rattle.row_change.proofs.filling.moved_on.Goals as goal

pub returns-in-Ok-clause-looked : goal.returns-in-Ok-clause-looked
returns-in-Ok-clause-looked g c = looked_on g.D.Disk.meaning c.args.store.now c.pointed.new.store c.body_emptied.new.store c.in-Ok.first c.body_emptied.result c.in-Ok.ensures.looked c.body_emptied.ensures.looked

pub returns-in-Ok-clause-says : goal.returns-in-Ok-clause-says
returns-in-Ok-clause-says g c = λ R o who own f t a x y h. c.body_emptied.ensures.says R o who own (fill c.args.head.now (head_to c.args.row f.at)) f (c.in-Ok.ensures.looked.stays_true R t) a (subst (λ (s : Shape). IsRowBlock s R o c.args.old.now.dba) (sym c.in-Ok.ensures.looked.loan.shape) y) (c.in-Ok.ensures.says R o who own f t a x h) h

pub returns-in-Ok-clause-sound : goal.returns-in-Ok-clause-sound
returns-in-Ok-clause-sound g c = λ R o who own t a x y n. c.body_emptied.ensures.sound R o who own (c.in-Ok.ensures.looked.stays_true R t) a (subst (λ (s : Shape). IsRowBlock s R o c.args.old.now.dba) (sym c.in-Ok.ensures.looked.loan.shape) y) (c.in-Ok.ensures.looked.cause.kept n)

pub returns-in-Err-clause-looked : goal.returns-in-Err-clause-looked
returns-in-Err-clause-looked g c = looked_err g.D.Disk.meaning c.args.store.now c.pointed.new.store c.in-Err.fault c.in-Err.ensures.looked

pub returns-in-Err-clause-sound : goal.returns-in-Err-clause-sound
returns-in-Err-clause-sound g c = λ R o who own t a x y n. c.in-Err.ensures.sound R o who own t a x n
