use Rattle.std.proofs.Common.{[], ◌∷◌, subst}
use Rattle.std.specs.Prelude.{OnOk, IfErr}
use Rattle.seg_words.specs.Types.{Shape}
use Rattle.store_pages.specs.Fitting.{AreBothFit}
use Rattle.pool_store.specs.Adding.{WhyNotBothTaken}
use Rattle.pool_store.proofs.Taking.{lawful_at}
use Rattle.pool_store.proofs.Takes.{taken_here, taken_after, taken_none, put_same, first_then, first_none, sound_not_both}
use Rattle.pool_store.proofs.store.Store.put_both.Goals as goal

pub returns-in-Ok-clause-taken : goal.returns-in-Ok-clause-taken
returns-in-Ok-clause-taken g c =
    let looked = c.in-Ok.ensures.looked in
    taken_after g.D.Disk.meaning (c.args.second.now ∷ c.args.first.now ∷ []) c.args.self.now c.make_room.new.self c.add_two.new.self tt c.add_two.result looked
    (taken_here g.D.Disk.meaning (c.args.second.now ∷ c.args.first.now ∷ []) c.make_room.new.self c.add_two.new.self c.add_two.result (looked.cause.kept looked.cause.goes_on) c.add_two.ensures.put c.add_two.ensures.refused)

pub returns-in-Ok-clause-first : goal.returns-in-Ok-clause-first
returns-in-Ok-clause-first g c =
    let e = c.in-Ok.ensures in
    first_then g.D.Disk.meaning _ c.args.self.now c.make_room.new.self c.add_two.new.self c.add_two.result e.looked.cause.goes_on (λ R h unspent lt. e.full R h unspent lt (λ is. cc is))
    (λ le few. (e.none e.looked.cause.goes_on le few).1) (put_same g.D.Disk.meaning (c.args.second.now ∷ c.args.first.now ∷ []) c.make_room.new.self c.add_two.new.self c.add_two.result c.add_two.ensures.put c.add_two.ensures.refused)

pub returns-in-Ok-clause-sound : goal.returns-in-Ok-clause-sound
returns-in-Ok-clause-sound g c = λ R t lawful calls unspent. c.add_two.ensures.sound R (c.in-Ok.ensures.looked.stays_true R t) (lawful_at c.args.self.now.shape c.make_room.new.self.shape (c.args.second.now ∷ c.args.first.now ∷ R) c.in-Ok.ensures.looked.loan.shape lawful) calls

pub returns-in-Ok-clause-fits : goal.returns-in-Ok-clause-fits
returns-in-Ok-clause-fits g c = λ R h. subst (λ (x : Shape). OnOk c.add_two.result (AreBothFit x R c.args.first.now c.args.second.now)) c.in-Ok.ensures.looked.loan.shape (c.add_two.ensures.fits R (c.in-Ok.ensures.looked.stays_true R h))

pub returns-in-Ok-clause-unfit : goal.returns-in-Ok-clause-unfit
returns-in-Ok-clause-unfit g c = λ R h unspent. subst (λ (x : Shape). IfErr c.add_two.result (WhyNotBothTaken x R c.args.first.now c.args.second.now)) c.in-Ok.ensures.looked.loan.shape (c.add_two.ensures.unfit R (c.in-Ok.ensures.looked.stays_true R h))

pub returns-in-Err-clause-taken : goal.returns-in-Err-clause-taken
returns-in-Err-clause-taken g c = taken_none g.D.Disk.meaning (c.args.second.now ∷ c.args.first.now ∷ []) c.args.self.now c.make_room.new.self c.in-Err.fault c.in-Err.ensures.looked

pub returns-in-Err-clause-first : goal.returns-in-Err-clause-first
returns-in-Err-clause-first g c = first_none g.D.Disk.meaning _ c.args.self.now c.make_room.new.self c.in-Err.fault c.in-Err.ensures.looked c.in-Err.ensures.full c.in-Err.ensures.none

pub returns-in-Err-clause-sound : goal.returns-in-Err-clause-sound
returns-in-Err-clause-sound g c = λ R t lawful calls unspent. c.in-Err.ensures.sound R t unspent

pub returns-in-Err-clause-unfit : goal.returns-in-Err-clause-unfit
returns-in-Err-clause-unfit g c = λ R h unspent. sound_not_both c.args.self.now.shape R c.args.first.now c.args.second.now c.in-Err.fault (c.in-Err.ensures.sound R h unspent)
