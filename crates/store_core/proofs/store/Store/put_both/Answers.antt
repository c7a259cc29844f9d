use Rattle.std.proofs.Common.{[], ◌∷◌, subst, sym}
use Rattle.std.specs.Prelude.{OnOk, IfErr}
use Rattle.seg_words.specs.Types.{Shape}
use Rattle.page_map.specs.Fitting.{AreBothFit}
use Rattle.store_core.specs.Adding.{WhyNotBothTaken}
use Rattle.store_core.proofs.Taking.{lawful_at}
use Rattle.store_core.proofs.Takes.{taken_here, taken_after, taken_none, put_same, first_then, first_none, device_not_both}
use Rattle.store_core.proofs.store.Store.put_both.Goals as goal

pub returns-in-Ok-clause-taken : goal.returns-in-Ok-clause-taken
returns-in-Ok-clause-taken g c =
    let going = c.in-Ok.ensures.looked.cause.kept c.in-Ok.ensures.looked.cause.goes_on in
    taken_after g.D.Disk.meaning (c.args.second.now ∷ c.args.first.now ∷ []) c.args.self.now c.flush_full.new.self c.add_two.new.self tt c.add_two.result c.in-Ok.ensures.looked (taken_here g.D.Disk.meaning (c.args.second.now ∷ c.args.first.now ∷ []) c.flush_full.new.self c.add_two.new.self c.add_two.result going c.add_two.ensures.put c.add_two.ensures.refused)

pub returns-in-Ok-clause-first : goal.returns-in-Ok-clause-first
returns-in-Ok-clause-first g c = first_then g.D.Disk.meaning _ c.args.self.now c.flush_full.new.self c.add_two.new.self c.add_two.result (λ R h lt. c.in-Ok.ensures.full R h lt) (λ le. c.in-Ok.ensures.none le) (put_same (c.args.second.now ∷ c.args.first.now ∷ []) c.flush_full.new.self c.add_two.new.self c.add_two.result c.add_two.ensures.put c.add_two.ensures.refused)

pub returns-in-Ok-clause-sound : goal.returns-in-Ok-clause-sound
returns-in-Ok-clause-sound g c = λ R t lawful calls unspent. c.add_two.ensures.sound R (c.in-Ok.ensures.looked.stays_true R t) (lawful_at c.args.self.now.shape c.flush_full.new.self.shape (c.args.second.now ∷ c.args.first.now ∷ R) c.in-Ok.ensures.looked.loan.shape lawful) calls

pub returns-in-Ok-clause-fits : goal.returns-in-Ok-clause-fits
returns-in-Ok-clause-fits g c = λ R h. subst (λ (x : Shape). OnOk c.add_two.result (AreBothFit x R c.args.first.now c.args.second.now)) c.in-Ok.ensures.looked.loan.shape (c.add_two.ensures.fits R (c.in-Ok.ensures.looked.list R h))

pub returns-in-Ok-clause-unfit : goal.returns-in-Ok-clause-unfit
returns-in-Ok-clause-unfit g c = λ R h unspent. subst (λ (x : Shape). IfErr c.add_two.result (WhyNotBothTaken x R c.args.first.now c.args.second.now)) c.in-Ok.ensures.looked.loan.shape (c.add_two.ensures.unfit R (c.in-Ok.ensures.looked.list R h))

pub returns-in-Err-clause-taken : goal.returns-in-Err-clause-taken
returns-in-Err-clause-taken g c = taken_none g.D.Disk.meaning (c.args.second.now ∷ c.args.first.now ∷ []) c.args.self.now c.flush_full.new.self c.in-Err.fault c.in-Err.ensures.looked

pub returns-in-Err-clause-first : goal.returns-in-Err-clause-first
returns-in-Err-clause-first g c = first_none g.D.Disk.meaning _ c.args.self.now c.flush_full.new.self c.in-Err.fault (λ le. c.in-Err.ensures.none le) (λ n. c.in-Err.ensures.only n)

pub returns-in-Err-clause-unfit : goal.returns-in-Err-clause-unfit
returns-in-Err-clause-unfit g c = λ R h unspent. device_not_both c.args.self.now.shape R c.args.first.now c.args.second.now c.in-Err.fault (c.in-Err.ensures.only unspent)
