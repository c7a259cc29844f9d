use Rattle.std.proofs.Common.{sym, subst}
use Rattle.seg_words.specs.Types.{Shape}
use Rattle.redo_model.specs.Model.{IsRowBlock}
use Rattle.store_core.proofs.Lookups.{looked_on}
use Rattle.row_change.proofs.lacking.lack_of_both.Goals as goal

pub returns-in-Ok-clause-looked : goal.returns-in-Ok-clause-looked
returns-in-Ok-clause-looked g c = looked_on g.D.Disk.meaning c.args.store.now c.lack_at.new.store c.lack_behind.new.store c.in-Ok.lack c.lack_behind.result c.in-Ok.ensures.looked c.lack_behind.ensures.looked

pub returns-in-Ok-clause-says : goal.returns-in-Ok-clause-says
returns-in-Ok-clause-says g c = λ R o who own t a x y. c.lack_behind.ensures.says R o who c.args.body own (c.in-Ok.ensures.looked.stays_true R t) a (c.in-Ok.ensures.says R o who own t a y) (subst (λ (s : Shape). IsRowBlock s R o c.args.head) (sym c.in-Ok.ensures.looked.loan.shape) x)

pub returns-in-Ok-clause-sound : goal.returns-in-Ok-clause-sound
returns-in-Ok-clause-sound g c = λ R o who own t a x y n. c.lack_behind.ensures.sound R o who own (c.in-Ok.ensures.looked.stays_true R t) a (subst (λ (s : Shape). IsRowBlock s R o c.args.head) (sym c.in-Ok.ensures.looked.loan.shape) x)

pub returns-in-Err-clause-sound : goal.returns-in-Err-clause-sound
returns-in-Err-clause-sound g c = λ R o who own t a x y n. c.in-Err.ensures.sound R o who own t a y n
