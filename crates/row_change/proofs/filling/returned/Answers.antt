use Rattle.std.proofs.Common.{sym, subst}
use Rattle.seg_words.specs.Types.{Shape}
use Rattle.redo_model.specs.Model.{IsRowBlock, plain_row}
use Rattle.change_laws.specs.Types.{fill}
use Rattle.store_core.proofs.Lookups.{looked_on, looked_err}
use Rattle.row_change.proofs.filling.returned.Goals as goal

pub returns-in-Ok-clause-looked : goal.returns-in-Ok-clause-looked
returns-in-Ok-clause-looked g c = looked_on g.D.Disk.meaning c.args.store.now c.made_whole.new.store c.then_emptied.new.store c.in-Ok.first c.then_emptied.result c.in-Ok.ensures.looked c.then_emptied.ensures.looked

pub returns-in-Ok-clause-says : goal.returns-in-Ok-clause-says
returns-in-Ok-clause-says g c = λ R o who own t a x y. c.then_emptied.ensures.says R o who own (fill c.args.head.now (plain_row c.args.row c.args.bytes.now)) (c.in-Ok.ensures.looked.stays_true R t) a (subst (λ (s : Shape). IsRowBlock s R o c.args.body.now.dba) (sym c.in-Ok.ensures.looked.loan.shape) y) (c.in-Ok.ensures.says R o who own t a x)

pub returns-in-Ok-clause-sound : goal.returns-in-Ok-clause-sound
returns-in-Ok-clause-sound g c = λ R o who own t a x y. c.then_emptied.ensures.sound R o who own (c.in-Ok.ensures.looked.stays_true R t) a (subst (λ (s : Shape). IsRowBlock s R o c.args.body.now.dba) (sym c.in-Ok.ensures.looked.loan.shape) y) (c.in-Ok.ensures.looked.cause.kept c.requires.unspent)

pub returns-in-Err-clause-looked : goal.returns-in-Err-clause-looked
returns-in-Err-clause-looked g c = looked_err g.D.Disk.meaning c.args.store.now c.made_whole.new.store c.in-Err.fault c.in-Err.ensures.looked

pub returns-in-Err-clause-sound : goal.returns-in-Err-clause-sound
returns-in-Err-clause-sound g c = λ R o who own t a x y. c.in-Err.ensures.sound R o who own t a x
