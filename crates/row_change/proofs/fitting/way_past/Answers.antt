use Rattle.std.proofs.Common.{Bool, ◌∙◌, ap, cond}
use Rattle.change_laws.specs.Types.{ToHead, ToOther}
use Rattle.store_core.proofs.Lookups.{looked_ok, looked_err}
use Rattle.row_change.proofs.fitting.way_past.Goals as goal

pub returns-in-Ok-clause-looked : goal.returns-in-Ok-clause-looked
returns-in-Ok-clause-looked g c = looked_ok g.D.Disk.meaning c.args.store.now c.fits_at.new.store c.in-Ok.fits _ c.in-Ok.ensures.looked

pub returns-in-Ok-clause-says : goal.returns-in-Ok-clause-says
returns-in-Ok-clause-says g c = λ R o who t a x. c.head_way.ensures ∙ ap (λ (v : Bool). cond v ToHead ToOther) (c.in-Ok.ensures.says R o who t a x)

pub returns-in-Err-clause-looked : goal.returns-in-Err-clause-looked
returns-in-Err-clause-looked g c = looked_err g.D.Disk.meaning c.args.store.now c.fits_at.new.store c.in-Err.fault c.in-Err.ensures.looked

pub returns-in-Err-clause-sound : goal.returns-in-Err-clause-sound
returns-in-Err-clause-sound g c = λ R o who t a x l n. c.in-Err.ensures.sound R o who t a x l n
