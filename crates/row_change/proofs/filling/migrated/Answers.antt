use Rattle.std.proofs.Common.{sym, subst}
use Rattle.seg_words.specs.Types.{Shape, Rowid}
use Rattle.redo_model.specs.Model.{body_of}
use Rattle.change_laws.specs.Types.{fill, free_place}
use Rattle.store_core.proofs.Lookups.{looked_on, looked_err}
use Rattle.row_change.specs.Drafting.{FillIs}
use Rattle.row_change.specs.Standing.{AreAtHome, told_stand}
use Rattle.row_change.proofs.filling.migrated.Goals as goal

pub returns-in-Ok-clause-looked : goal.returns-in-Ok-clause-looked
returns-in-Ok-clause-looked g c = looked_on g.D.Disk.meaning c.args.store.now c.moved_body.new.store c.migrated_with.new.store c.in-Ok.body c.migrated_with.result c.in-Ok.ensures.looked c.migrated_with.ensures.looked

pub returns-in-Ok-clause-says : goal.returns-in-Ok-clause-says
returns-in-Ok-clause-says g c = λ R o who own t a x y. c.migrated_with.ensures.says R o who own (free_place R c.args.to) c.args.bytes.now (c.in-Ok.ensures.looked.stays_true R t) a (subst (λ (s : Shape). AreAtHome s R o (told_stand c.args.stand.now)) (sym c.in-Ok.ensures.looked.loan.shape) x)
    (subst (λ (h : Rowid). FillIs R own c.in-Ok.body (fill (free_place R c.args.to) (body_of c.args.row h c.args.bytes.now))) c.first_of-head.ensures (c.in-Ok.ensures.says R o who own t a y))

pub returns-in-Ok-clause-sound : goal.returns-in-Ok-clause-sound
returns-in-Ok-clause-sound g c = λ R o who own t a x y. c.migrated_with.ensures.sound R o who own (c.in-Ok.ensures.looked.stays_true R t) a (subst (λ (s : Shape). AreAtHome s R o (told_stand c.args.stand.now)) (sym c.in-Ok.ensures.looked.loan.shape) x) (c.in-Ok.ensures.looked.cause.kept c.requires.unspent)

pub returns-in-Err-clause-looked : goal.returns-in-Err-clause-looked
returns-in-Err-clause-looked g c = looked_err g.D.Disk.meaning c.args.store.now c.moved_body.new.store c.in-Err.fault c.in-Err.ensures.looked

pub returns-in-Err-clause-sound : goal.returns-in-Err-clause-sound
returns-in-Err-clause-sound g c = λ R o who own t a x y. c.in-Err.ensures.sound R o who own t a y
